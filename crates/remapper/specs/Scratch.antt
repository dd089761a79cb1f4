-- What the functions do to the scratch: 4n numbers in four rows, the roster, the numbers (new number + 1 by old id, 0: none), the previous
-- links and the next links. The waiting components are a ring through glyph 0, which never waits: its next link is the top. A glyph with no
-- number that does not wait is a ring of its own. A link is stored as its distance from the glyph, modulo 65,536: 0 is the glyph itself.
use Rattle.std.specs.Prelude.{ℕ, ◌+◌, ◌*◌, ◌-◌, ◌%◌, ◌≤◌, ◌<◌, ◌≡◌, Bool, false, List, length, get_or, set, take, replicate, eqb}
use Rattle.model.specs.Res.{pick}
use Rattle.model.specs.Bytes.{put, member}

abbrev pub num : ℕ → List ℕ → ℕ → ℕ
num n s g = get_or s (n + g) 0

-- g's link in the row that starts at base
unfoldable pub link : ℕ → List ℕ → ℕ → ℕ
link base s g = (get_or s (base + g) 0 + g) % 65536

-- it becomes v
unfoldable pub relinked : ℕ → List ℕ → ℕ → ℕ → List ℕ
relinked base s g v = set s (base + g) ((v + 65536 - g) % 65536)

abbrev pub prev : ℕ → List ℕ → ℕ → ℕ
prev n s g = link (2 * n) s g

abbrev pub next : ℕ → List ℕ → ℕ → ℕ
next n s g = link (3 * n) s g

-- c's neighbours are joined
unfoldable pub unlinked : ℕ → List ℕ → ℕ → List ℕ
unlinked n s c = relinked (2 * n) (relinked (3 * n) s (prev n s c) (next n s c)) (next n s c) (prev n s c)

-- c comes after glyph 0
unfoldable pub inserted : ℕ → List ℕ → ℕ → List ℕ
inserted n s c = relinked (3 * n) (relinked (2 * n) (relinked (2 * n) (relinked (3 * n) s c (next n s 0)) c 0) (next n s 0) c) 0 c

unfoldable pub moved : ℕ → List ℕ → ℕ → List ℕ
moved n s c = inserted n (unlinked n s c) c

-- a component: one with no number moves to the top
unfoldable pub offered : ℕ → List ℕ → ℕ → List ℕ
offered n s c = pick (eqb (num n s c) 0) (moved n s c) s

-- an id gets the number k
unfoldable pub given : ℕ → List ℕ → ℕ → ℕ → List ℕ
given n s q k = set (set s (0 + k) q) (n + q) (k + 1)

-- a component leaves the ring and gets the number k
unfoldable pub taken : ℕ → List ℕ → ℕ → ℕ → List ℕ
taken n s c k = given n (unlinked n s c) c k

-- nothing is numbered but glyph 0, and nothing waits: zeros behind the roster, which is written as ids are numbered
unfoldable pub started : ℕ → List ℕ → List ℕ
started n s = given n (put s n (replicate (3 * n) 0)) 0 0

-- every link is a glyph's id
pub record Linked (n : ℕ) (s : List ℕ) : Type 0 where
  pub size : 4 * n ≤ length s
  pub back : (g : ℕ) → g < n → prev n s g < n
  pub on : (g : ℕ) → g < n → next n s g < n

-- the row that starts at base holds zeros, modulo 65,536, but for the ids of the roster, which are the first `kept` numbers
pub record Sparse (n : ℕ) (s : List ℕ) (kept base : ℕ) : Type 0 where
  pub few : kept ≤ n
  pub behind : n ≤ base
  pub room : base + n ≤ length s
  pub low : (j : ℕ) → j < kept → get_or s j 0 < n
  pub others : (g : ℕ) → g < n → member g (take kept s) ≡ false → get_or s (base + g) 0 % 65536 ≡ 0

-- as the walk leaves the rows behind the roster: the numbers, and the links unless other things were written there
pub record Sweepable (n : ℕ) (s : List ℕ) (kept : ℕ) (written : Bool) : Type 0 where
  pub numbers : Sparse n s kept n
  pub links : written ≡ false → Sparse n s kept (2 * n) × Sparse n s kept (3 * n)

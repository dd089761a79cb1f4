-- Bytes are numbers in a list. Big-endian words, parts, padding, membership.
use Rattle.std.specs.Prelude.{◌≡◌, Bool, true, false, List, [], ◌∷◌, ◌++◌, ℕ, suc, ◌+◌, ◌*◌, ◌-◌, ◌/◌, ◌%◌, leb, eqb, length, get_or, take, drop, replicate}
use Rattle.model.specs.Res.{pick, both, either}

abbrev pub Bytes : Type 0
Bytes = List ℕ

-- the big-endian words of 16 and 32 bits at a place
abbrev pub word16 : Bytes → ℕ → ℕ
word16 b i = get_or b i 0 * 256 + get_or b (i + 1) 0

abbrev pub word32 : Bytes → ℕ → ℕ
word32 b i = word16 b i * 65536 + word16 b (i + 2)

abbrev pub be16 : ℕ → Bytes
be16 x = x / 256 % 256 ∷ x % 256 ∷ []

abbrev pub be32 : ℕ → Bytes
be32 x = be16 (x / 65536) ++ be16 (x % 65536)

-- is flag number `bit` (a power of two) set
abbrev pub flag : ℕ → ℕ → Bool
flag bit flags = eqb (flags / bit % 2) 1

-- does [at, at + size) lie in b; and that part
abbrev pub holds : Bytes → ℕ → ℕ → Bool
holds b at size = leb (at + size) (length b)

abbrev pub part : Bytes → ℕ → ℕ → Bytes
part b at size = take size (drop at b)

-- new bytes in the place of as many old ones: from a place on, and at the start
unfoldable pub put : Bytes → ℕ → Bytes → Bytes
put b at new = take at b ++ new ++ drop (at + length new) b

unfoldable pub over : Bytes → Bytes → Bytes
over new b = new ++ drop (length new) b

-- zeros that bring a length to a multiple of 2, of 4
abbrev pub pad2 : Bytes → Bytes
pad2 b = b ++ replicate (length b % 2) 0

abbrev pub pad4 : Bytes → Bytes
pad4 b = b ++ replicate ((4 - length b % 4) % 4) 0

abbrev pub sum : List ℕ → ℕ
sum [] = 0
sum (x ∷ xs) = x + sum xs

abbrev pub concat : List Bytes → Bytes
concat [] = []
concat (b ∷ bs) = b ++ concat bs

abbrev pub all : {A : Type 0} → (A → Bool) → List A → Bool
all p [] = true
all p (x ∷ xs) = both (p x) (all p xs)

abbrev pub same_bytes : Bytes → Bytes → Bool
same_bytes [] [] = true
same_bytes [] (y ∷ ys) = false
same_bytes (x ∷ xs) [] = false
same_bytes (x ∷ xs) (y ∷ ys) = both (eqb x y) (same_bytes xs ys)

abbrev pub member : ℕ → List ℕ → Bool
member x [] = false
member x (y ∷ ys) = either (eqb x y) (member x ys)

-- x stands in the list; no number stands there twice
abbrev pub In : ℕ → List ℕ → Type 0
In x l = member x l ≡ true

abbrev pub Once : List ℕ → Type 0
Once [] = Unit {0}
Once (x ∷ l) = (member x l ≡ false) × Once l

-- where x first stands in a list (its length if it does not)
abbrev pub place : List ℕ → ℕ → ℕ
place [] x = 0
place (y ∷ ys) x = pick (eqb x y) 0 (suc (place ys x))

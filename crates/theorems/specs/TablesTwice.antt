-- Table by table: what a second cut finds in a table that was cut. `roster` is the first cut's, `places` are numbers in it.
use Rattle.std.specs.Prelude.{◌≡◌, true, List, map, ℕ, ◌≤◌, ◌<◌, ltb, length, get_or}
use Rattle.model.specs.Res.{ok}
use Rattle.model.specs.Bytes.{Bytes, be32, put, all}
use Rattle.model.specs.Glyf.{Width, width_of, new_head}
use Rattle.model.specs.Metrics.{Metric, metrics, new_count, new_hmtx, new_hhea}
use Rattle.model.specs.Name.{cut_name}
use Rattle.model.specs.Post.{cut_post}
use Rattle.model.specs.Cut.{new_maxp}
use Rattle.theorems.specs.Twice.{AreBytes, NoneMissing}

abbrev pub Places : List ℕ → List ℕ → Type 0
Places roster places = all (λ k. ltb k (length roster)) places ≡ true

-- head, with any adjustment in place: the width that was written is read, and a second cut covers the first
abbrev pub WidthBack : Type 0
WidthBack = (w : Width) (head : Bytes) (x : ℕ) → 52 ≤ length head → width_of (put (new_head w head) 8 (be32 x)) ≡ w

abbrev pub HeadTwice : Type 0
HeadTwice = (w v : Width) (head : Bytes) (x : ℕ) → 52 ≤ length head → new_head v (put (new_head w head) 8 (be32 x)) ≡ new_head v head

abbrev pub HheaTwice : Type 0
HheaTwice = (hhea : Bytes) (k j : ℕ) → 2 ≤ length hhea → new_hhea (new_hhea hhea k) j ≡ new_hhea hhea j

abbrev pub MaxpTwice : Type 0
MaxpTwice = (maxp : Bytes) (n k : ℕ) → new_maxp (new_maxp maxp n) k ≡ new_maxp maxp k

-- metrics at new numbers in the new tables are those at the old numbers in the old tables
abbrev pub MetricsTwice : Type 0
MetricsTwice =
    (hhea hmtx : Bytes) (roster places : List ℕ) (ms : List Metric) → AreBytes hmtx → length hhea ≡ 36 → 0 < length roster → length roster < 65536
    → metrics hhea hmtx roster ≡ ok ms → Places roster places
    → metrics (new_hhea hhea (new_count ms)) (new_hmtx (new_count ms) ms) places ≡ metrics hhea hmtx (map (λ k. get_or roster k 0) places)

-- a name table that was cut is copied
abbrev pub NameTwice : Type 0
NameTwice = (b c : Bytes) → cut_name b ≡ ok c → cut_name c ≡ ok c

-- cutting a post table that was cut is cutting once, if no name was missing
abbrev pub PostTwice : Type 0
PostTwice =
    (b c : Bytes) (roster places : List ℕ) → length roster < 65536 → cut_post b roster ≡ ok c → NoneMissing b roster → Places roster places
    → cut_post c places ≡ cut_post b (map (λ k. get_or roster k 0) places)

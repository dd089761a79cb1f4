-- The public call's steps, as the code takes them: the measures and the tables they size, the writers, and what is left to do after each.
use Rattle.std.specs.Prelude.{◌≡◌, Bool, true, false, List, [], ◌∷◌, ℕ, ◌+◌, ◌*◌, ◌<◌, leb, ltb, length, get_or}
use Rattle.std.specs.Prelude.{Option as Maybe, Some, None}
use Rattle.std.proofs.Math.Option.{Option, none, some}
use Rattle.model.specs.Res.{Res, refuse, ok, pick, each, need, value_of, ◌>>=◌, ◌>>◌}
use Rattle.model.specs.Bytes.{Bytes, place}
use Rattle.model.specs.Font.{Tables}
use Rattle.model.specs.Glyf.{width, entry_size}
use Rattle.model.specs.Metrics.{metrics}
use Rattle.model.specs.Name.{cut_name}
use Rattle.model.specs.Post.{cut_post}
use Rattle.model.specs.File.{entries, file}
use Rattle.model.specs.Cut.{CutFont, piece_of, new_tables, optional}
use Rattle.model.specs.Call.{Input, Made}
use Rattle.places.specs.declared.Place.{Place}
use Rattle.places.specs.declared.Tables.{Tables as Places}
use Rattle.places.specs.Places.{place_at, present_at}
use Rattle.plan.specs.declared.Sums.{Sums}
use Rattle.plan.specs.declared.Plan.{Plan}

-- what the public call is lent
abbrev pub lent : Bytes → ℕ → List ℕ → List ℕ → Bytes → Input
lent font index ids scratch out = record { font = font; index = index; ids = ids; scratch = scratch; out = out }

-- the number of a refusal (of none, 0)
abbrev pub refusal_of : {A : Type 0} → Res A → ℕ
refusal_of (refuse k) = k
refusal_of (ok a) = 0

-- the new tables, if no step refuses
unfoldable pub renewed : Tables → List ℕ → Tables
renewed t r =
    new_tables t (length r) (value_of [] (each (piece_of t (place r)) r)) (value_of [] (metrics t.hhea t.hmtx r))
    (value_of none (optional cut_name t.name)) (value_of none (optional (λ b. cut_post b r) t.post))

-- step 9, of what steps 6 to 8 made
unfoldable pub file_from : Res CutFont → Res Made
file_from m = m >>= λ c. need 5 (leb (length (file (entries c.tables))) 4294967295) >> ok (record { roster = c.roster; bytes = file (entries c.tables) })

-- the tables in tag order
abbrev pub tables_of : Tables → List (Option Bytes)
tables_of t =
    t.cvt ∷ t.fpgm ∷ some t.glyf ∷ some t.head ∷ some t.hhea ∷ some t.hmtx ∷ some t.loca ∷ some t.maxp ∷ t.name ∷ t.post ∷ t.prep ∷ []

abbrev pub there? : Option Bytes → Bool
there? none = false
there? (some b) = true

abbrev pub bytes_in : Option Bytes → Bytes
bytes_in none = []
bytes_in (some b) = b

-- the places have the tables' lengths
abbrev pub Sized : Tables → Places → Type 0
Sized t s = (k : ℕ) → k < 11
    → (present_at s k ≡ there? (get_or (tables_of t) k none)) × ((place_at s k).length ≡ length (bytes_in (get_or (tables_of t) k none)))

-- a table's length; an absent one's is 0
abbrev pub length_in : Option Bytes → ℕ
length_in o = length (bytes_in o)

-- a table's new length, if it is there; where it will stand is not known yet
unfoldable pub sized_place : Bool → ℕ → Maybe Place
sized_place there l = pick there (Some (record { offset = 0; length = l })) None

-- every table's new length: those of glyf, hmtx, loca, name and post change
unfoldable pub sized_by : Places → ℕ → ℕ → ℕ → ℕ → ℕ → Places
sized_by t glyf hmtx loca name post =
    record {
      places =
          sized_place (present_at t 0) (place_at t 0).length
          ∷ sized_place (present_at t 1) (place_at t 1).length
          ∷ sized_place true glyf
          ∷ sized_place true (place_at t 3).length
          ∷ sized_place true (place_at t 4).length
          ∷ sized_place true hmtx
          ∷ sized_place true loca
          ∷ sized_place true (place_at t 7).length
          ∷ sized_place (present_at t 8) name
          ∷ sized_place (present_at t 9) post
          ∷ sized_place (present_at t 10) (place_at t 10).length
          ∷ [];
    }

-- the plan, once every length is known: "Over 131,070: long loca, entries unpadded"
unfoldable pub plan_of : Places → ℕ → Sums → ℕ → ℕ → ℕ → ℕ → Plan
plan_of t kept sums count hmtx name post =
    let long = ltb 131070 sums.even in
    record {
      count = count;
      wide = long;
      sized = sized_by t (pick long sums.raw sums.even) hmtx (entry_size (width long) * (kept + 1)) name post;
    }

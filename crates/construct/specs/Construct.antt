-- Where the new tables stand, and the tables that the output holds.
use Rattle.std.specs.Prelude.{◌≡◌, ℕ, zero, suc, ◌+◌, ◌-◌, ◌*◌, ◌%◌, ◌^◌, ◌<◌, ◌≤◌, Bool, true, false, List, [], ◌∷◌, ◌++◌, length, get_or, slice_index, slice_index_or}
use Rattle.std.specs.Prelude.{Option as Maybe, Some, None}
use Rattle.std.proofs.Math.Option.{Option, none, some}
use Rattle.model.specs.Res.{pick}
use Rattle.model.specs.Bytes.{Bytes, part, put, pad4}
use Rattle.model.specs.Font.{Entry, Tables as Contents}
use Rattle.model.specs.File.{bodies, selector, search_range}
use Rattle.places.specs.declared.Place.{Place}
use Rattle.places.specs.declared.Tables.{Tables}
use Rattle.places.specs.Places.{tag_words, place_at, present_at, content_at}
use Rattle.construct.specs.declared.Layout.{Layout}
use Rattle.construct.specs.declared.Search.{Search}

-- search range and selector of so many tables
unfoldable pub searched : ℕ → Search
searched n = record { selector = selector n n; range = search_range n }

-- head's adjustment, from the first file sum S
abbrev pub adjusting : ℕ → ℕ
adjusting s = (2 ^ 32 + 0xB1B0AFBA - s) % 2 ^ 32

-- a length raised to a multiple of 4
unfoldable pub raised : ℕ → ℕ
raised n = n + (4 - n % 4) % 4

-- how many of the first k tables are there
unfoldable pub count_to : Tables → ℕ → ℕ
count_to t zero = 0
count_to t (suc k) = count_to t k + pick (present_at t k) 1 0

-- where the table behind the first k starts, if the first of all starts at d
unfoldable pub start_at : ℕ → Tables → ℕ → ℕ
start_at d t zero = d
start_at d t (suc k) = start_at d t k + pick (present_at t k) (raised (place_at t k).length) 0

-- the directory's length
unfoldable pub directory_length : ℕ → ℕ
directory_length n = 12 + 16 * n

unfoldable pub placed_at : Tables → ℕ → Maybe Place
placed_at t k = pick (present_at t k) (Some (record { offset = start_at (directory_length (count_to t 11)) t k; length = (place_at t k).length })) None

unfoldable pub places_to : Tables → ℕ → List (Maybe Place)
places_to t zero = []
places_to t (suc k) = places_to t k ++ (placed_at t k ∷ [])

-- the new file's layout, from each table's new length
unfoldable pub laid_out : Tables → Layout
laid_out t =
    record {
      tables = record { places = places_to t 11 };
      count = count_to t 11;
      end = start_at (directory_length (count_to t 11)) t 11;
    }

-- table number k, if it is there, with its contents; the first k of them
unfoldable pub entry_at : Tables → (ℕ → Bytes) → ℕ → List Entry
entry_at t body k = pick (present_at t k) ((slice_index tag_words k, body k) ∷ []) []

unfoldable pub entries_to : Tables → (ℕ → Bytes) → ℕ → List Entry
entries_to t body zero = []
entries_to t body (suc k) = entries_to t body k ++ entry_at t body k

-- the contents and marks of a cut font's tables, by number
abbrev pub content_of : Option Bytes → Bytes
content_of none = []
content_of (some b) = b

abbrev pub is_there : Option Bytes → Bool
is_there none = false
is_there (some b) = true

unfoldable pub body_of : Contents → ℕ → Bytes
body_of c k =
    get_or
    (content_of c.cvt ∷ content_of c.fpgm ∷ c.glyf ∷ c.head ∷ c.hhea ∷ c.hmtx ∷ c.loca ∷ c.maxp
    ∷ content_of c.name ∷ content_of c.post ∷ content_of c.prep ∷ [])
    k []

unfoldable pub marks : Contents → List Bool
marks c =
    is_there c.cvt ∷ is_there c.fpgm ∷ true ∷ true ∷ true ∷ true ∷ true ∷ true
    ∷ is_there c.name ∷ is_there c.post ∷ is_there c.prep ∷ []

-- just the tables that the font has are marked
abbrev pub Marked : Contents → Tables → Type 0
Marked c t = (k : ℕ) → k < 11 → present_at t k ≡ slice_index_or (marks c) k false

-- the tables that stand in the output at their places
unfoldable pub laid : Bytes → Tables → List Entry
laid out t = entries_to t (content_at out t) 11

-- these bytes stand there
abbrev pub Stands : Bytes → ℕ → Bytes → Type 0
Stands out at bs = part out at (length bs) ≡ bs

-- contents are as long as the places say
abbrev pub Sized : Tables → (ℕ → Bytes) → Type 0
Sized t body = (k : ℕ) → k < 11 → present_at t k ≡ true → length (body k) ≡ (place_at t k).length

-- one behind the other, the first behind the directory
pub record Placed (new : Layout) : Type 0 where
  pub counts : new.count ≡ count_to new.tables 11
  pub offsets : (k : ℕ) → k < 11 → present_at new.tables k ≡ true → (place_at new.tables k).offset ≡ start_at (directory_length new.count) new.tables k
  pub ends : new.end ≡ start_at (directory_length new.count) new.tables 11

-- all tables stand in the output, zero-padded; head (number 3) is there, and long enough for its adjustment
pub record Ready (out : Bytes) (new : Layout) : Type 0 where
  pub placed : Placed new
  pub stands : Stands out (directory_length new.count) (bodies (laid out new.tables))
  pub room : new.end ≤ length out
  pub small : new.end ≤ 4294967295
  pub head : present_at new.tables 3 ≡ true
  pub long : 12 ≤ (place_at new.tables 3).length

-- a number is handed back, and these bytes are left
pub record Leaves (n : ℕ) (bytes : Bytes) (r : ℕ) (out : Bytes) : Type 0 where
  pub gives : r ≡ n
  pub holds : out ≡ bytes

-- table number k, if it is there, written at its place and padded; and so the first k, with their contents
unfoldable pub write_at : Layout → ℕ → Bytes → Bytes → Bytes
write_at new k b out = pick (present_at new.tables k) (put out (place_at new.tables k).offset (pad4 b)) out

unfoldable pub write_to : Layout → (ℕ → Bytes) → Bytes → ℕ → Bytes
write_to new body out zero = out
write_to new body out (suc k) = write_at new k (body k) (write_to new body out k)

-- the first k tables are written, padded, one behind the other, over what the output was: the caller's way to `Ready`
abbrev pub Written : Layout → (ℕ → Bytes) → Bytes → Bytes → ℕ → Type 0
Written new body out₀ out k = out ≡ put out₀ (directory_length new.count) (bodies (entries_to new.tables body k))

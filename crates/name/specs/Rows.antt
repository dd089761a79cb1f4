-- The name table by row numbers, as the code goes through it. proofs/ ties each definition to `cut_name`.
use Rattle.std.specs.Prelude.{◌≡◌, ℕ, zero, suc, ◌+◌, ◌*◌, ◌<◌, ◌≤◌, Bool, true, false, List, [], ◌∷◌, ◌++◌, map, length, take, drop, ◌≢◌, nat_le, slice_index, slice_index_or, Result, Ok, Err}
use Rattle.model.specs.Res.{Res, ok, pick, both, need, each, ◌>>◌}
use Rattle.model.specs.Bytes.{Bytes, word16, be16, put, part, concat}
use Rattle.model.specs.Name.{NameEntry, name_rows, kept_rows, name_entry, is_kept, stored?, store, offset_of, new_row, new_name}
use Rattle.name.specs.Hashed.{bucket_of, Latest}
use Rattle.name.specs.declared.Link.{Link}
use Rattle.name.specs.declared.Link.TheVariants.{Same, New}

-- row i, and where its string stands in the table
abbrev pub row_at : Bytes → ℕ → Bytes
row_at b i = part b (6 + 12 * i) 12

abbrev pub string_start : Bytes → ℕ → ℕ
string_start b i = word16 b 4 + word16 b (6 + 12 * i + 10)

abbrev pub string_length : Bytes → ℕ → ℕ
string_length b i = word16 b (6 + 12 * i + 8)

unfoldable pub string_at : Bytes → ℕ → Bytes
string_at b i = part b (string_start b i) (string_length b i)

unfoldable pub kept_at : Bytes → ℕ → Bool
kept_at b i = is_kept (row_at b i)

unfoldable pub inside_at : Bytes → ℕ → Bool
inside_at b i = both (nat_le (word16 b (6 + 12 * i + 10) + string_length b i) 65535) (nat_le (string_start b i + string_length b i) (length b))

unfoldable pub entry_at : Bytes → ℕ → NameEntry
entry_at b i = record { ids = take 8 (row_at b i); string = string_at b i }

-- the kept names of the first n rows: as the model tests them, and as entries
unfoldable pub tested : Bytes → ℕ → Res (List NameEntry)
tested b n = each (name_entry (drop (word16 b 4) b)) (kept_rows (name_rows n (drop 6 b)))

unfoldable pub entries : Bytes → ℕ → List NameEntry
entries b zero = []
entries b (suc n) = entries b n ++ pick (kept_at b n) (entry_at b n ∷ []) []

-- their distinct strings, and the rows where these stand first
unfoldable pub strings : Bytes → ℕ → List Bytes
strings b n = store [] (entries b n)

unfoldable pub first_rows : Bytes → ℕ → List ℕ
first_rows b zero = []
first_rows b (suc n) =
    first_rows b n ++ pick (kept_at b n) (pick (stored? (string_at b n) (map (string_at b) (first_rows b n))) [] (n ∷ [])) []

-- "all distinct ones over 65,535 bytes: 5"
unfoldable pub distinct_bytes : Bytes → Res ℕ
distinct_bytes b = do
  need 5 (nat_le (length (concat (strings b (word16 b 2)))) 65535)
  ok (length (concat (strings b (word16 b 2))))

-- a record with its new offset, those of the first n rows, and the whole table, "over 5,460 kept records: 5"
unfoldable pub new_record : Bytes → ℕ → ℕ → Bytes
new_record b i offset = part b (6 + 12 * i) 8 ++ (be16 (string_length b i) ++ be16 offset)

unfoldable pub new_records : Bytes → ℕ → Bytes
new_records b n = concat (map (new_row (strings b (word16 b 2))) (entries b n))

unfoldable pub new_table : Bytes → Res Bytes
new_table b = do
  need 5 (nat_le (length (concat (strings b (word16 b 2)))) 65535)
  need 5 (nat_le (length (entries b (word16 b 2))) 5460)
  ok (new_name (entries b (word16 b 2)))

-- the order of strings: by the length, then by the first byte in which they differ
unfoldable pub key : Bytes → ℕ → ℕ
key x zero = length x
key x (suc k) = slice_index x k

pub record Before (x y : Bytes) : Type 0 where
  pub place : ℕ
  pub same : (k : ℕ) → k < place → key x k ≡ key y k
  pub less : key x place < key y place

-- the string whose number stands at place k of the order
unfoldable pub ordered_at : Bytes → List ℕ → List ℕ → ℕ → Bytes
ordered_at b firsts order k = string_at b (slice_index firsts (slice_index order k))

pub record Standing (order : List ℕ) (used j : ℕ) : Type 0 where
  pub place : ℕ
  pub below : place < used
  pub there : slice_index_or order place 0 ≡ j

-- the numbers of the `used` first uses, every one of them, in ascending order of their strings
pub record Ordered (b : Bytes) (firsts order : List ℕ) (used : ℕ) : Type 0 where
  pub number : (k : ℕ) → k < used → slice_index order k < used
  pub every : (j : ℕ) → j < used → Standing order used j
  pub ascending : (k l : ℕ) → k < l → l < used → Before (ordered_at b firsts order k) (ordered_at b firsts order l)

-- the bucket of first use j
unfoldable pub key_at : Bytes → List ℕ → ℕ → ℕ → ℕ
key_at b firsts buckets j = bucket_of (string_at b (slice_index firsts j)) buckets

pub record Buckets (heads : List ℕ) : Type 0 where
  pub some : 0 < length heads
  pub few : length heads ≤ 4096

pub record Cleared (heads : List ℕ) : Type 0 where
  pub buckets : Buckets heads
  pub zero : (h : ℕ) → h < length heads → slice_index heads h ≡ 0

-- no two of the `used` first uses have one string
pub record Apart (b : Bytes) (firsts : List ℕ) (used : ℕ) : Type 0 where
  pub differ : (j k : ℕ) → j < k → k < used → string_at b (slice_index firsts j) ≢ string_at b (slice_index firsts k)

-- `heads` has the last first use of each bucket, `links` the one before it in its bucket, each plus one
pub record Linked (b : Bytes) (firsts links heads : List ℕ) (used : ℕ) : Type 0 where
  pub last : (h : ℕ) → h < length heads → Latest (key_at b firsts (length heads)) used h (slice_index heads h)
  pub before : (u : ℕ) → u < used → Latest (key_at b firsts (length heads)) u (key_at b firsts (length heads) u) (slice_index links u)
  pub apart : Apart b firsts used

-- the first uses are in order, or linked
pub record Arranged (b : Bytes) (firsts links heads : List ℕ) (used : ℕ) (sorted : Bool) : Type 0 where
  pub buckets : Buckets heads
  pub ordered : sorted ≡ true → Ordered b firsts links used
  pub linked : sorted ≡ false → Linked b firsts links heads used

-- what stands below place `low` comes before s, what stands from place `high` on behind it
pub record Between (b : Bytes) (firsts order : List ℕ) (used : ℕ) (s : Bytes) (low high : ℕ) : Type 0 where
  pub meet : low ≤ high
  pub within : high ≤ used
  pub below : (k : ℕ) → k < low → Before (ordered_at b firsts order k) s
  pub above : (k : ℕ) → high ≤ k → k < used → Before s (ordered_at b firsts order k)

-- place p is given to the number `used`; what stood there and behind it has moved on by one
pub record Inserted (old new : List ℕ) (used p : ℕ) : Type 0 where
  pub below : (k : ℕ) → k < p → slice_index new k ≡ slice_index old k
  pub here : slice_index_or new p 0 ≡ used
  pub above : (k : ℕ) → p ≤ k → k < used → slice_index new (k + 1) ≡ slice_index old k

-- k of the `size` bytes at two places are equal
pub record Alike (b : Bytes) (at start size k : ℕ) : Type 0 where
  pub within : k ≤ size
  pub same : (i : ℕ) → i < k → slice_index b (at + i) ≡ slice_index b (start + i)

-- whether all of them are
pub record Compared (b : Bytes) (at start size : ℕ) (r : Bool) : Type 0 where
  pub equal : r ≡ true → Alike b at start size size
  pub differ : r ≡ false → Alike b at start size size → ⊥

-- whether the eight bytes that stand k bytes behind the two places are equal
pub record WordAlike (b : Bytes) (at start size k : ℕ) (r : Bool) : Type 0 where
  pub equal : r ≡ true → (i : ℕ) → k ≤ i → i < k + 8 → slice_index b (at + i) ≡ slice_index b (start + i)
  pub differ : r ≡ false → Compared b at start size false

-- row i and its string lie in the table
pub record Inside (b : Bytes) (i : ℕ) : Type 0 where
  pub row : 6 + 12 * i + 12 ≤ length b
  pub string : string_start b i + string_length b i ≤ length b

-- a row's string can be looked for among the first uses, and what is found
pub record Searchable (b : Bytes) (firsts order : List ℕ) (used i : ℕ) : Type 0 where
  pub sought : Inside b i
  pub among : (j : ℕ) → j < used → Inside b (slice_index firsts j)
  pub ordered : Ordered b firsts order used
  pub rows : used ≤ length firsts
  pub places : used ≤ length order

pub record Sought (b : Bytes) (firsts order : List ℕ) (used i : ℕ) (f : Result ℕ ℕ) : Type 0 where
  pub at : (j : ℕ) → f ≡ Ok j → (j < used) × (string_at b (slice_index firsts j) ≡ string_at b i)
  pub nowhere : (p : ℕ) → f ≡ Err p → Between b firsts order used (string_at b i) p p

-- the same by the links of the string's bucket
pub record Walkable (b : Bytes) (firsts links heads : List ℕ) (bucket i : ℕ) : Type 0 where
  pub used : ℕ
  pub sought : Inside b i
  pub among : (j : ℕ) → j < used → Inside b (slice_index firsts j)
  pub rows : used ≤ length firsts
  pub places : used ≤ length links
  pub linked : Linked b firsts links heads used
  pub within : bucket < length heads
  pub its : bucket ≡ bucket_of (string_at b i) (length heads)

pub record Walked (b : Bytes) (firsts links heads : List ℕ) (bucket i : ℕ) (f : Link) : Type 0 where
  pub same : (j : ℕ) → f ≡ Same j → (j < slice_index heads bucket) × (string_at b (slice_index firsts j) ≡ string_at b i)
  pub new : f ≡ New → (used : ℕ) → Linked b firsts links heads used → (j : ℕ) → j < used → string_at b (slice_index firsts j) ≢ string_at b i

-- the first uses can be put in order
pub record Sortable (b : Bytes) (firsts order : List ℕ) (used : ℕ) : Type 0 where
  pub among : (j : ℕ) → j < used → Inside b (slice_index firsts j)
  pub rows : used ≤ length firsts
  pub places : used ≤ length order
  pub few : used ≤ 65535
  pub apart : Apart b firsts used

-- what the tests of 3 and 4 made sure of
pub record Tested (b : Bytes) : Type 0 where
  pub rows : 6 + 12 * word16 b 2 ≤ length b
  pub storage : word16 b 4 ≤ length b
  pub inside : (i : ℕ) → i < word16 b 2 → kept_at b i ≡ true → Inside b i

-- after n rows: `firsts` starts with the rows of the `used` first uses, `offsets` with where their strings start, which fill `end` bytes
pub record Uses (b : Bytes) (n : ℕ) (firsts offsets : List ℕ) (used end : ℕ) : Type 0 where
  pub rows : take used firsts ≡ first_rows b n
  pub room : used ≤ length firsts
  pub bytes : end ≡ length (concat (strings b n))
  pub starts : (j : ℕ) → j < used → slice_index offsets j ≡ offset_of (string_at b (slice_index firsts j)) (strings b n)

-- every kept row can be noted in so many places
pub record Roomy (b : Bytes) (places : ℕ) : Type 0 where
  pub tested : Tested b
  pub room : length (entries b (word16 b 2)) ≤ places
  pub few : length (entries b (word16 b 2)) ≤ 5460

-- a kept row's string can be noted
pub record Notable (b : Bytes) (i places : ℕ) (firsts offsets : List ℕ) (used end : ℕ) : Type 0 where
  pub room : Roomy b places
  pub row : i < word16 b 2
  pub kept : kept_at b i ≡ true
  pub uses : Uses b i firsts offsets used end
  pub small : end ≤ 65535

-- the table can be written, with so many places to note first uses and so many bytes of output
pub record Writable (b : Bytes) (places size : ℕ) : Type 0 where
  pub room : Roomy b places
  pub small : length (concat (strings b (word16 b 2))) ≤ 65535
  pub fits : 6 + 12 * length (entries b (word16 b 2)) + length (concat (strings b (word16 b 2))) ≤ size

-- the records are written, and the rows of all first uses noted
pub record Recorded (b : Bytes) (firsts out out₀ : List ℕ) (kept used : ℕ) : Type 0 where
  pub records : out ≡ put out₀ 6 (new_records b (word16 b 2))
  pub count : kept ≡ length (entries b (word16 b 2))
  pub rows : take used firsts ≡ first_rows b (word16 b 2)
  pub room : used ≤ length firsts

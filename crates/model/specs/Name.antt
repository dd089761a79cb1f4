-- Step 7, name.
use Rattle.std.specs.Prelude.{Bool, true, false, List, [], ◌∷◌, ◌++◌, map, ℕ, zero, suc, ◌+◌, ◌*◌, leb, eqb, length, take, drop}
use Rattle.model.specs.Res.{Res, ok, pick, both, either, need, each, ◌>>=◌, ◌>>◌}
use Rattle.model.specs.Bytes.{Bytes, word16, be16, holds, part, concat, same_bytes}

-- the records as they stand: platform, encoding, language, name id, length, offset
abbrev pub name_rows : ℕ → Bytes → List Bytes
name_rows zero b = []
name_rows (suc n) b = take 12 b ∷ name_rows n (drop 12 b)

-- "Kept, in order: platform 0, or 3 with encoding 0, 1 or 10; name ids 0 to 9 and 11 to 14"
abbrev pub kept_ids : ℕ → ℕ → ℕ → Bool
kept_ids platform encoding name =
    both
    (either (eqb platform 0) (both (eqb platform 3) (either (eqb encoding 0) (either (eqb encoding 1) (eqb encoding 10)))))
    (either (leb name 9) (both (leb 11 name) (leb name 14)))

abbrev pub is_kept : Bytes → Bool
is_kept r = kept_ids (word16 r 0) (word16 r 2) (word16 r 6)

abbrev pub kept_rows : List Bytes → List Bytes
kept_rows [] = []
kept_rows (r ∷ rs) = pick (is_kept r) (r ∷ kept_rows rs) (kept_rows rs)

-- a kept name: its four ids as they stand, and its string
pub record NameEntry : Type 0 where
  pub ids : Bytes
  pub string : Bytes

-- "A kept string with offset + length over 65,535 or outside storage: 4"
unfoldable pub name_entry : Bytes → Bytes → Res NameEntry
name_entry storage r = do
  need 4 (leb (word16 r 10 + word16 r 8) 65535)
  need 4 (holds storage (word16 r 10) (word16 r 8))
  ok (record { ids = take 8 r; string = part storage (word16 r 10) (word16 r 8) })

-- "header, records, storage start must be there (3)"
unfoldable pub name_entries : Bytes → Res (List NameEntry)
name_entries b = do
  need 3 (holds b 0 6)
  need 3 (holds b 6 (12 * word16 b 2))
  need 3 (leb (word16 b 4) (length b))
  each (name_entry (drop (word16 b 4) b)) (kept_rows (name_rows (word16 b 2) (drop 6 b)))

-- "Equal strings are stored once, at the first use"
abbrev pub stored? : Bytes → List Bytes → Bool
stored? s [] = false
stored? s (x ∷ xs) = pick (same_bytes x s) true (stored? s xs)

abbrev pub store : List Bytes → List NameEntry → List Bytes
store xs [] = xs
store xs (e ∷ es) = store (pick (stored? e.string xs) xs (xs ++ (e.string ∷ []))) es

-- where a string starts in the new storage
abbrev pub offset_of : Bytes → List Bytes → ℕ
offset_of s [] = 0
offset_of s (x ∷ xs) = pick (same_bytes x s) 0 (length x + offset_of s xs)

-- "Written: version 0, the count, the storage start (6 + 12 times the count), the records with new offsets, the strings"
abbrev pub new_row : List Bytes → NameEntry → Bytes
new_row xs e = e.ids ++ (be16 (length e.string) ++ be16 (offset_of e.string xs))

unfoldable pub new_name : List NameEntry → Bytes
new_name es =
    be16 0 ++ (be16 (length es) ++ (be16 (6 + 12 * length es)
    ++ (concat (map (new_row (store [] es)) es) ++ concat (store [] es))))

-- "Under 2 bytes: 3. Version not 0: copied"; "all distinct ones over 65,535 bytes, or over 5,460 kept records: 5. All ranges are tested before either 5"
unfoldable pub cut_name : Bytes → Res Bytes
cut_name b = do
  need 3 (holds b 0 2)
  pick (eqb (word16 b 0) 0)
      (do
        es ← name_entries b
        need 5 (leb (length (concat (store [] es))) 65535)
        need 5 (leb (length es) 5460)
        ok (new_name es))
      (ok b)

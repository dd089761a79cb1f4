-- Step 8, post.
use Rattle.std.specs.Prelude.{List, [], ◌∷◌, ◌++◌, map, ℕ, zero, suc, ◌+◌, ◌*◌, ◌-◌, ltb, leb, eqb, length, get_or, take, drop}
use Rattle.model.specs.Res.{Res, ok, pick, both, need, each, ◌>>=◌, ◌>>◌}
use Rattle.model.specs.Bytes.{Bytes, word16, word32, be16, holds, concat}

-- "The names list ends at an empty or cut name". A name takes a byte or more, so as many turns as there are bytes are enough (theorem `names-enough`)
abbrev pub names : ℕ → Bytes → List Bytes
names zero b = []
names (suc turns) [] = []
names (suc turns) (k ∷ b) =
    let more = take k b ∷ names turns (drop k b) in
    pick (both (ltb 0 k) (leb k (length b))) more []

-- the names stand behind the index array
abbrev pub names_of : Bytes → List Bytes
names_of b = names (length b) (drop (34 + 2 * word16 b 32) b)

-- "no index for a kept id: 3"
unfoldable pub post_index : Bytes → ℕ → Res ℕ
post_index b g = need 3 (ltb g (word16 b 32)) >> ok (word16 b (34 + 2 * g))

-- "Index 257 and below is kept; others are written as 258, 259 and on": they count up from `next`
abbrev pub new_indexes : ℕ → List ℕ → List ℕ
new_indexes next [] = []
new_indexes next (i ∷ is) = pick (leb i 257) (i ∷ new_indexes next is) (next ∷ new_indexes (suc next) is)

-- "each with its own stored name; a missing one is stored empty"
abbrev pub new_names : List Bytes → List ℕ → List Bytes
new_names ns [] = []
new_names ns (i ∷ is) = pick (leb i 257) (new_names ns is) (get_or ns (i - 258) [] ∷ new_names ns is)

-- "Written: the old first 32 bytes, N, the indexes, each stored name after its length byte"
abbrev pub pascal : Bytes → Bytes
pascal s = length s ∷ s

unfoldable pub new_post : Bytes → List ℕ → List Bytes → Bytes
new_post first is ns =
    first ++ (be16 (length is) ++ (concat (map be16 is) ++ concat (map pascal ns)))

-- "Under 4 bytes: 3. Version not 0x00020000: copied. Else under 34 bytes, or its index array cut, or no index for a kept id: 3";
-- "A new index over 65,535: 5, tested after every 3": the last one is 257 plus the number of stored names
unfoldable pub cut_post : Bytes → List ℕ → Res Bytes
cut_post b roster = do
  need 3 (holds b 0 4)
  pick (eqb (word32 b 0) 0x00020000)
      (do
        need 3 (holds b 0 34)
        need 3 (holds b 34 (2 * word16 b 32))
        is ← each (post_index b) roster
        need 5 (leb (257 + length (new_names (names_of b) is)) 65535)
        ok (new_post (take 32 b) (new_indexes 258 is) (new_names (names_of b) is)))
      (ok b)

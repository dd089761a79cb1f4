-- The eleven tags as four bytes are the eleven words, big-endian: one computed equation over the table.
use Rattle.std.proofs.Common.{◌≡◌, ℕ, zero, suc, ◌<◌, List, [], ◌∷◌, map, length, get_or, sym, refl, ap, ◌∙◌, le_of_suc-le-suc, not-suc-le-zero}
use lib.ListN.{get_or-map}
use Rattle.model.specs.Bytes.{Bytes, be32}
use Rattle.places.specs.Places.{tag_words}

abbrev pub tags : List Bytes
tags =
    (99 ∷ 118 ∷ 116 ∷ 32 ∷ []) ∷ (102 ∷ 112 ∷ 103 ∷ 109 ∷ []) ∷ (103 ∷ 108 ∷ 121 ∷ 102 ∷ []) ∷ (104 ∷ 101 ∷ 97 ∷ 100 ∷ [])
    ∷ (104 ∷ 104 ∷ 101 ∷ 97 ∷ []) ∷ (104 ∷ 109 ∷ 116 ∷ 120 ∷ []) ∷ (108 ∷ 111 ∷ 99 ∷ 97 ∷ []) ∷ (109 ∷ 97 ∷ 120 ∷ 112 ∷ [])
    ∷ (110 ∷ 97 ∷ 109 ∷ 101 ∷ []) ∷ (112 ∷ 111 ∷ 115 ∷ 116 ∷ []) ∷ (112 ∷ 114 ∷ 101 ∷ 112 ∷ []) ∷ []

get_d_any : {A : Type 0} (l : List A) (k : ℕ) (d e : A) → k < length l → get_or l k d ≡ get_or l k e
get_d_any [] k d e h = absurd (not-suc-le-zero h)
get_d_any (x ∷ l) zero d e h = refl
get_d_any (x ∷ l) (suc k) d e h = get_d_any l k d e (le_of_suc-le-suc h)

words : tags ≡ map be32 tag_words
words = refl

pub tag-bytes : (k : ℕ) → k < 11 → get_or tags k [] ≡ be32 (get_or tag_words k 0)
tag-bytes k h =
    get_d_any tags k [] (be32 0) h ∙ ap (λ (l : List Bytes). get_or l k (be32 0)) words ∙ get_or-map be32 tag_words k 0

pub length-tag : (k : ℕ) → k < 11 → 4 ≡ length (get_or tags k [])
length-tag k h = sym (ap length (tag-bytes k h))

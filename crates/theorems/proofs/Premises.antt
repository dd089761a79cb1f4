-- Three small fonts, computed: a plain one meets every premise; a second cut that reads the old count in a long hhea finds hmtx too short; a missing name, stored empty, hides the later ones.
use mathlib.Core.Path.{◌≡◌, refl, sym, ap, ◌∙◌}
use mathlib.Core.Bool.{true}
use mathlib.Core.Option.{Option, none, some}
use mathlib.Core.List.{List, [], ◌∷◌, ◌++◌, map}
use Prim.Native.Nat.{ℕ, zero, suc, ◌*◌, ◌≤◌}
use native.Mathlib.Omega.{arith}
use lib.Dec.{ltb, lit<}
use lib.ListN.{length, replicate}
use borrow.Author.Tests.{ltb-true}
use Rattle.model.specs.Res.{Res, refuse, ok}
use Rattle.model.specs.Bytes.{Bytes, put, over, all, member, place}
use Rattle.model.proofs.Res.{both_true}
use Rattle.model.specs.Font.{Tables, read, face_start, face_at, directory, gather}
use Rattle.model.specs.Outline.{outline, records}
use Rattle.model.specs.Walk.{numbered, full, begin, walk}
use Rattle.model.specs.Glyf.{glyph_bytes}
use Rattle.model.specs.Metrics.{metric, metrics}
use Rattle.model.specs.Post.{post_index, new_post, cut_post}
use Rattle.model.specs.File.{entries, file, directory_of, adjustment}
use Rattle.model.specs.Cut.{count, closure, rewrite, cut_tables, outline_of, parts_of, piece_of}
use Rattle.model.specs.Call.{Input, Answer, answer, out_after, scratch_after, ready, made}
use Rattle.theorems.specs.Twice.{AreBytes, file_of, roster_of, ScratchEnough, Asked}
use Rattle.theorems.specs.Premises.{HheaNeeded, NamesNeeded, PremisesMet}

-- three empty glyphs of equal advance
abbrev font : Bytes → Option Bytes → Bytes
unfolding entries file directory_of adjustment put
font hhea post =
    file
    (entries
    (record {
      cvt = none;
      fpgm = none;
      glyf = [];
      head = replicate 52 0;
      hhea = hhea;
      hmtx = replicate 12 0;
      loca = replicate 8 0;
      maxp = replicate 6 0;
      name = none;
      post = post;
      prep = none;
    }))

-- the count, 3, and two bytes more
abbrev long_hhea : Bytes
long_hhea = font (replicate 35 0 ++ (3 ∷ 0 ∷ 0 ∷ [])) none

-- the count, 3, and no more
abbrev plain : Bytes
plain = font (replicate 35 0 ++ (3 ∷ [])) none

-- index 259 for glyph 0, 258 for glyphs 1 and 2, and one name: that of 258
abbrev missing : Bytes
missing = font (replicate 35 0 ++ (3 ∷ [])) (some (0 ∷ 2 ∷ (replicate 31 0 ++ (3 ∷ 1 ∷ 3 ∷ 1 ∷ 2 ∷ 1 ∷ 2 ∷ 1 ∷ 65 ∷ []))))

abbrev ask : Bytes → List ℕ → Input
ask font ids = record { font = font; index = 0; ids = ids; scratch = replicate 12 0; out = replicate 320 0 }

abbrev hhea_of : Res Tables → ℕ
hhea_of (refuse k) = 0
hhea_of (ok t) = length t.hhea

abbrev post_of : Res Tables → Option Bytes
post_of (refuse k) = none
post_of (ok t) = t.post

abbrev count_of : Res Tables → ℕ
count_of (refuse k) = 0
count_of (ok t) = count t

are_bytes : (b : Bytes) → all (λ x. ltb x 256) b ≡ true → AreBytes b
are_bytes [] e i = lit< tt
are_bytes (x ∷ b) e zero = ltb-true x 256 (both_true (ltb x 256) _ e).0
are_bytes (x ∷ b) e (suc i) = are_bytes b (both_true (ltb x 256) _ e).1 i

enough : (x : Input) (n : ℕ) → count_of (read x.font x.index) ≡ n → 4 * n ≤ length x.scratch → ScratchEnough x
enough x n e h t r = let q : count t ≡ n = sym (ap count_of r) ∙ e in omega arith

-- its own glyphs are asked again
ask-again : (first : Input) (new : List ℕ) → all (λ g. member g (roster_of first)) first.ids ≡ true → new ≡ map (place (roster_of first)) first.ids
    → length first.out ≡ 320 → ScratchEnough (ask (file_of first) new) → ScratchEnough first → Asked first first.ids (ask (file_of first) new) first
ask-again first new kept numbers room s t =
    record {
      kept = kept;
      small_file = refl;
      new_numbers = numbers;
      original = (refl, refl);
      old_numbers = refl;
      room = sym room;
      scratch = (s, t);
    }

-- by way of the small font 3, directly 0
pub hhea_needed : HheaNeeded
unfolding entries file directory_of adjustment answer out_after ready made read face_start face_at directory gather cut_tables rewrite closure walk begin numbered full parts_of piece_of outline_of glyph_bytes outline records metrics metric post_index new_post cut_post scratch_after put over
hhea_needed =
    let first = ask long_hhea (2 ∷ []) in
    let small = ask (file_of first) (1 ∷ []) in
    record {
      first = first;
      small = small;
      direct = first;
      glyphs = 2 ∷ [];
      bytes = are_bytes long_hhea refl;
      success = refl;
      premise = λ t post r e. let z : none ≡ some post = ap post_of r ∙ e in let z : ◌≡◌ {A = ℕ} 0 1 = cc in absurd (omega arith);
      asked = ask-again first (1 ∷ []) refl refl refl (enough small 2 refl (omega arith)) (enough first 3 refl (omega arith));
      differ = λ s. let z : ◌≡◌ {A = ℕ} 3 0 = ap (λ (a : Answer). a.refusal) s.answers in omega arith;
    }

pub premises_met : PremisesMet
unfolding entries file directory_of adjustment answer out_after ready made read face_start face_at directory gather cut_tables rewrite closure walk begin numbered full parts_of piece_of outline_of glyph_bytes outline records metrics metric post_index new_post cut_post scratch_after put over
premises_met =
    let first = ask plain (2 ∷ []) in
    let small = ask (file_of first) (1 ∷ []) in
    record {
      first = first;
      small = small;
      direct = first;
      glyphs = 2 ∷ [];
      cut =
          record {
            bytes = are_bytes plain refl;
            success = refl;
            hhea36 = λ t r. sym (ap hhea_of r);
            named = λ t post r e. let z : none ≡ some post = ap post_of r ∙ e in let z : ◌≡◌ {A = ℕ} 0 1 = cc in absurd (omega arith);
          };
      asked = ask-again first (1 ∷ []) refl refl refl (enough small 2 refl (omega arith)) (enough first 3 refl (omega arith));
      again = refl;
    }

-- by way of the small font the name of glyph 1 is missing too, and the file is 4 bytes shorter
pub names_needed : NamesNeeded
unfolding entries file directory_of adjustment answer out_after ready made read face_start face_at directory gather cut_tables rewrite closure walk begin numbered full parts_of piece_of outline_of glyph_bytes outline records metrics metric post_index new_post cut_post scratch_after put over
names_needed =
    let first = ask missing (1 ∷ []) in
    let small = ask (file_of first) (1 ∷ []) in
    record {
      first = first;
      small = small;
      direct = first;
      glyphs = 1 ∷ [];
      bytes = are_bytes missing refl;
      success = refl;
      premise = λ t r. sym (ap hhea_of r);
      asked = ask-again first (1 ∷ []) refl refl refl (enough small 2 refl (omega arith)) (enough first 3 refl (omega arith));
      differ = λ s. let z : ◌≡◌ {A = ℕ} 276 280 = ap (λ (a : Answer). a.length) s.answers in omega arith;
    }

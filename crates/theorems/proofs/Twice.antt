-- The first call's file reads back as the tables it made, and on these the second cut is the direct one: so the last two calls end alike.
use mathlib.Core.Path.{◌≡◌, refl, sym, ap, ap₂, ◌∙◌, subst}
use mathlib.Core.Bool.{true}
use mathlib.Core.Option.{some}
use mathlib.Core.List.{List, [], ◌∷◌, map}
use Prim.Native.Nat.{ℕ, ◌-◌, ◌≤◌}
use native.Mathlib.Omega.{arith}
use lib.Dec.{eqb}
use lib.ListN.{length, get_or, take, length-append}
use lib.Seq.{length-take-le}
use borrow.Author.Tests.{eqb-true}
use Rattle.model.specs.Res.{ok, map_res}
use Rattle.model.specs.Bytes.{Bytes, be16, all, member, place}
use Rattle.model.proofs.Res.{Under, both_true}
use Rattle.model.specs.Font.{Tables, read}
use Rattle.model.specs.File.{entries, file, adjustment}
use Rattle.model.specs.Glyf.{new_width, size}
use Rattle.model.specs.Metrics.{new_count}
use Rattle.model.specs.Cut.{CutFont, cut_tables}
use Rattle.model.specs.Call.{Input, Answer, made}
use Rattle.model.proofs.Members.{In, in_eq, by, clash}
use Rattle.model.proofs.Places.{place-low, map_back}
use Rattle.theorems.specs.ReadBack.{as_written}
use Rattle.theorems.specs.Twice.{NoneMissing, file_of, roster_of, FirstCut, Asked, Same, CuttingTwice, HandedBack}
use Rattle.model.proofs.Chosen.{under-map}
use Rattle.theorems.proofs.Head.{length-new_head}
use Rattle.theorems.proofs.Lent.{FromBytes, read_inv}
use Rattle.theorems.proofs.ReadBack.{read_back}
use Rattle.theorems.proofs.Pieces.{Taken, tables_of, cut_inv, glyf-fits}
use Rattle.theorems.proofs.Cut.{rename, cut-same}
use Rattle.theorems.proofs.Calls.{rename_made, ends-alike, ready-ok, ready_inv, made-same, won}

-- what the two cuts have in common, on tables: c is the first cut
record Common (t : Tables) (c : CutFont) : Type 0 where
  reads : (i : ℕ) → read (file (entries c.tables)) i ≡ ok (as_written c.tables)
  cuts : (ids : List ℕ) → Under (length c.roster) ids
      → cut_tables t (map (λ j. get_or c.roster j 0) ids) ≡ map_res (rename (λ j. get_or c.roster j 0)) (cut_tables (as_written c.tables) ids)

common : (t : Tables) (ids : List ℕ) (c : CutFont) → FromBytes t → length t.hhea ≡ 36 → ((b : Bytes) → t.post ≡ some b → NoneMissing b c.roster)
    → cut_tables t ids ≡ ok c → length (file (entries c.tables)) ≤ 4294967295 → Common t c
common t ids c lent hhea36 full cut fits =
    let q = cut_inv t ids c cut in
    let f = q.taken in
    subst (λ (s : Tables). length (file (entries s)) ≤ 4294967295 → Common t (record { roster = c.roster; tables = s })) q.made (go f) fits
  where
    go : (f : Taken t ids c.roster) → length (file (entries (tables_of t ids c.roster f))) ≤ 4294967295 → Common t (record { roster = c.roster; tables = tables_of t ids c.roster f })
    go f fits =
        let s = tables_of t ids c.roster f in
        let front = take (length t.hhea - 2) t.hhea in
        record {
          reads =
              λ i.
              read_back s i
              (record {
                head = omega (arith, length-new_head t.head lent.long.head (new_width (size f.bs)), lent.long.head);
                hhea = omega (arith, length-append front (be16 (new_count f.ms)), length-take-le (length t.hhea - 2) t.hhea (omega arith));
                maxp = omega arith;
              })
              (omega arith);
          cuts = cut-same t ids c.roster f lent.long.head (glyf-fits t ids c.roster f fits) (adjustment (entries s)) hhea36 lent.hmtx full;
        }

-- a list of glyphs kept
kept_in : (r gs : List ℕ) → all (λ g. member g r) gs ≡ true → (g : ℕ) → In g gs → In g r
kept_in r [] e g i = clash i refl
kept_in r (h ∷ gs) e g i =
    let q = both_true (member h r) (all (λ g. member g r) gs) e in
    by (eqb g h) (λ d. in_eq r (eqb-true g h d) q.0) (λ d. kept_in r gs q.1 g (rw d at i))

module _ (first small direct : Input) (glyphs : List ℕ) (f : FirstCut first) (a : Asked first glyphs small direct)
    (t : Tables) (read₀ : read first.font first.index ≡ ok t)
    (c : CutFont) (cut : cut_tables t first.ids ≡ ok c) (fits : length (file (entries c.tables)) ≤ 4294967295)
    (roster-is : roster_of first ≡ c.roster) (file-is : file_of first ≡ file (entries c.tables)) where
  abbrev r : List ℕ
  r = roster_of first

  abbrev s : Tables
  s = as_written c.tables

  shared : Common t c
  shared =
      common t first.ids c (read_inv first.font first.index t f.bytes read₀) (f.hhea36 t read₀)
      (λ b e. subst (NoneMissing b) roster-is (f.named t b read₀ e)) cut fits

  cuts : (ids : List ℕ) → Under (length r) ids → cut_tables t (map (λ j. get_or r j 0) ids) ≡ map_res (rename (λ j. get_or r j 0)) (cut_tables s ids)
  cuts =
      subst
      (λ (r : List ℕ). (ids : List ℕ) → Under (length r) ids → cut_tables t (map (λ j. get_or r j 0) ids) ≡ map_res (rename (λ j. get_or r j 0)) (cut_tables s ids))
      (sym roster-is) shared.cuts

  read_small : read small.font small.index ≡ ok s
  read_small = ap (λ (b : Bytes). read b small.index) (a.small_file ∙ file-is) ∙ shared.reads small.index

  read-direct : read direct.font direct.index ≡ ok t
  read-direct = ap₂ read a.original.0 a.original.1 ∙ read₀

  same-made : made t direct.ids ≡ map_res (rename_made (λ j. get_or r j 0)) (made s small.ids)
  same-made =
      let new = map (place r) glyphs in
      let old : ℕ → ℕ = λ j. get_or r j 0 in
      let kept = kept_in r glyphs a.kept in
      ap (made t) (a.old_numbers ∙ sym (map_back r glyphs kept))
      ∙ made-same t s (map old new) new old (cuts new (under-map (length r) (place r) glyphs (λ g i. place-low r g (kept g i))))
      ∙ ap (λ (ids : List ℕ). map_res (rename_made old) (made s ids)) (sym a.new_numbers)

  after_first : Same first small direct
  after_first =
      ends-alike first small direct s t
      (ready-ok small s read_small (a.scratch.0 s read_small))
      (ready-ok direct t read-direct (a.scratch.1 t read-direct))
      a.room same-made

pub cutting_twice : CuttingTwice
cutting_twice first small direct glyphs f a =
    let s = won first f.success in
    after_first first small direct glyphs f a s.tables (ready_inv first s.tables s.passed).0 s.font s.cuts s.fits s.roster s.file

pub handed_back : HandedBack
handed_back x r out scratch p = (
  p.answers,
  ap₂ (λ (a : Answer) (b : Bytes). take a.length b) p.answers p.writes,
  ap₂ (λ (a : Answer) (s : List ℕ). take a.kept s) p.answers p.leaves,
)

-- What the public call knows of its font on the way: opened, walked, measured.
use Rattle.std.specs.Prelude.{◌≡◌, Result, Ok, true, List, [], ℕ, ◌+◌, ◌*◌, ◌≤◌, ◌<◌, length, get_or, take, drop}
use Rattle.std.proofs.Math.Option.{Option, none, some}
use Rattle.model.specs.Res.{Res, ok, each, map_res, is_ok, value_of, ◌>>◌}
use Rattle.model.specs.Bytes.{Bytes, word32, place}
use Rattle.model.specs.Font.{Tables}
use Rattle.model.specs.Glyf.{width, width_of, size, new_width}
use Rattle.model.specs.Metrics.{metrics, new_count}
use Rattle.model.specs.Name.{cut_name}
use Rattle.model.specs.Post.{cut_post}
use Rattle.model.specs.Cut.{CutFont, count, closure, piece_of, optional}
use Rattle.answer.specs.declared.Refusal.{Refusal}
use Rattle.answer.specs.Answers.{res_of}
use Rattle.places.specs.Places.{contents, Within}
use Rattle.remapper.specs.State.{number_in}
use Rattle.hmtx.specs.Measures.{sizes}
use Rattle.post.specs.Post.{Indexed}
use Rattle.glyf.specs.Pieces.{Measured}
use Rattle.plan.specs.declared.Source.{Source}
use Rattle.plan.specs.declared.Sums.{Sums}
use Rattle.plan.specs.declared.Plan.{Plan}
use Rattle.plan.specs.Steps.{refusal_of, renewed, Sized, length_in}

-- step 3's least lengths
pub record Long (t : Tables) : Type 0 where
  pub head : 52 ≤ length t.head
  pub hhea : 36 ≤ length t.hhea
  pub maxp : 6 ≤ length t.maxp

-- the font's tables
abbrev pub font_of : Bytes → Source → Tables
font_of font s = contents font s.tables

-- steps 1 to 3 are done
pub record Opens (font : Bytes) (s : Source) : Type 0 where
  pub within : Within font s.tables
  pub long : Long (font_of font s)
  pub wide : width s.long ≡ width_of (font_of font s).head
  pub number : s.n ≡ count (font_of font s)

-- step 5 is done, for some requests: the roster and the new numbers stand in the scratch
pub record Walked (font : Bytes) (s : Source) (scratch : List ℕ) (kept : ℕ) : Type 0 where
  pub ids : List ℕ
  pub closes : closure (font_of font s) ids ≡ ok (take kept scratch)
  pub inside : kept ≤ length scratch
  pub numbers : (g : ℕ) → g < s.n → get_or scratch (s.n + g) 0 ≡ number_in (take kept scratch) g
  pub space : 4 * s.n ≤ length scratch

-- and it added up the lengths of a roster's outlines
abbrev pub OutlinesAdded : Tables → List ℕ → Sums → Type 0
OutlinesAdded t r sums = Measured (value_of [] (each (piece_of t (place r)) r)) sums.even sums.raw

-- post has no names of its own, whose places would stand in the scratch
abbrev pub Unnamed : Option Bytes → Type 0
Unnamed none = Unit {0}
Unnamed (some b) = word32 b 0 ≡ 0x00020000 → ⊥

-- only the scratch's places 2n to 4n may have changed, and only for names
pub record Kept (post : Option Bytes) (n : ℕ) (before after : List ℕ) : Type 0 where
  pub same_length : length after ≡ length before
  pub front : take (2 * n) after ≡ take (2 * n) before
  pub back : drop (4 * n) after ≡ drop (4 * n) before
  pub same : Unnamed post → after ≡ before

-- post is measured: its size or the refusal, and its names' places in the scratch
pub record PostSized (t : Tables) (n kept : ℕ) (before after : List ℕ) (r : Result ℕ Refusal) : Type 0 where
  pub size : res_of r ≡ map_res length_in (optional (λ b. cut_post b (take kept before)) t.post)
  pub untouched : Kept t.post n before after
  pub index : is_ok (res_of r) ≡ true → (b : Bytes) → t.post ≡ some b → Indexed b after n kept

-- what is left of steps 6 to 8 after each
unfoldable pub after_post : Tables → List ℕ → Res CutFont
after_post t r = ok (record { roster = r; tables = renewed t r })

unfoldable pub after_name : Tables → List ℕ → Res CutFont
after_name t r = optional (λ b. cut_post b r) t.post >> after_post t r

unfoldable pub after_metrics : Tables → List ℕ → Res CutFont
after_metrics t r = optional cut_name t.name >> after_name t r

-- what the measures found
pub record Found (t : Tables) (r : List ℕ) (p : Plan) : Type 0 where
  pub sized : Sized (renewed t r) p.sized
  pub counted : p.count ≡ new_count (value_of [] (metrics t.hhea t.hmtx r))
  pub width : width p.wide ≡ new_width (size (value_of [] (each (piece_of t (place r)) r)))

-- a plan for what is left, m, of steps 6 to 8, or m's refusal
pub record Planned (m : Res CutFont) (t : Tables) (n kept : ℕ) (before after : List ℕ) (p : Result Plan Refusal) : Type 0 where
  pub fits : is_ok (res_of p) ≡ is_ok m
  pub refusal : refusal_of (res_of p) ≡ refusal_of m
  pub found : (q : Plan) → p ≡ Ok q → Found t (take kept before) q
  pub untouched : Kept t.post n before after
  pub index : is_ok (res_of p) ≡ true → (b : Bytes) → t.post ≡ some b → Indexed b after n kept

-- steps 6 and 7 and 8 have passed, with these sizes
abbrev pub MetricsPassed : Tables → List ℕ → ℕ → ℕ → Type 0
MetricsPassed t r count hmtx = ok (count, hmtx) ≡ map_res sizes (metrics t.hhea t.hmtx r)

abbrev pub NamePassed : Tables → ℕ → Type 0
NamePassed t name = ok name ≡ map_res length_in (optional cut_name t.name)

abbrev pub PostPassed : Tables → List ℕ → ℕ → Type 0
PostPassed t r post = ok post ≡ map_res length_in (optional (λ b. cut_post b r) t.post)

-- The records one by one, and the whole file: rows so far and their tables' sum; then header, rows and adjustment joined.
use Rattle.std.proofs.Common.{◌≡◌, ℕ, ◌+◌, ◌*◌, ◌%◌, ◌^◌, ◌<◌, ◌≤◌, true, false, List, ◌++◌, length, get_or, take, drop, sym, refl, ap, ◌∙◌, ap₂, arith, length-append, take_at}
use Rattle.model.specs.Bytes.{Bytes, part, be32, put, over}
use Rattle.model.specs.Font.{Entry}
use Rattle.model.specs.File.{word_sum, checksum, header, row, rows_from, bodies, adjust, adjustment, directory_of, file}
use Rattle.model.proofs.Bytes.{length-put, put-within}
use Rattle.places.specs.declared.Tables.{Tables}
use Rattle.places.specs.Places.{tag_words, place_at, present_at, content_at}
use Rattle.construct.specs.declared.Layout.{Layout}
use Rattle.construct.specs.Construct.{count_to, directory_length, entries_to, laid, adjusting, Ready, Leaves}
use Rattle.construct.proofs.Files.{rows_append, length-rows, sum_snoc, length-directory, sum-file}
use Rattle.construct.proofs.Stand.{put_nil, put_next, put_front, put-stands, part-put}
use Rattle.construct.proofs.Lists.{count-there, count_none, count-grows, length-entries, entries-there, entries_none}
use Rattle.construct.proofs.Head.{head-put}
use Rattle.construct.proofs.Readiness.{place-room, first-room, ready-sized, ready-offset, ready-count, ready_end}

-- the records of the first k tables are written, the next goes to `at`, and `sum` is these tables' sum
pub record Rowed (t : Tables) (out₀ out : Bytes) (sum at k : ℕ) : Type 0 where
  pub below : k ≤ 11
  pub next : at ≡ 12 + 16 * count_to t k
  pub sums : sum ≡ checksum (bodies (entries_to t (content_at out₀ t) k))
  pub rows : out ≡ put out₀ 12 (rows_from (directory_length (count_to t 11)) (entries_to t (content_at out₀ t) k))

pub rowed_start : (t : Tables) (out : Bytes) → Rowed t out out 0 12 0
unfolding count_to entries_to
rowed_start t out = record { below = omega arith; next = refl; sums = refl; rows = put_nil out 12 }

pub rowed_none : (t : Tables) (out₀ out : Bytes) (sum at k : ℕ) → k < 11 → present_at t k ≡ false → Rowed t out₀ out sum at k → Rowed t out₀ out sum at (k + 1)
rowed_none t out₀ out sum at k h n r =
    let c = count_none t k n in
    let e = entries_none t (content_at out₀ t) k n in
    let i = r.next in
    record {
      below = omega arith;
      next = omega arith;
      sums = rw e r.sums;
      rows = rw e r.rows;
    }

module _ (new : Layout) (out₀ : Bytes) (ready : Ready out₀ new) where
  d-same : directory_length (count_to new.tables 11) ≡ directory_length new.count
  d-same = ap directory_length (sym ready.placed.counts)

  front-room : 12 ≤ length out₀
  front-room = let f = first-room new ready.placed in let r = ready.room in unfold directory_length in omega arith

  -- the output keeps its length
  pub rowed_length : (out : Bytes) (sum at k : ℕ) → Rowed new.tables out₀ out sum at k → length out ≡ length out₀
  unfolding directory_length
  rowed_length out sum at k r =
      let es = entries_to new.tables (content_at out₀ new.tables) k in
      let d = directory_length (count_to new.tables 11) in
      let l = length-rows d es in
      let c = length-entries new.tables (content_at out₀ new.tables) k in
      let b = r.below in
      let g = count-grows new.tables k 11 b in
      let f = first-room new ready.placed in
      let e = ready.placed.counts in
      let room = ready.room in
      ap length r.rows ∙ length-put out₀ 12 (rows_from d es) (omega arith)

  module _ (out : Bytes) (sum at k : ℕ) (h : k < 11) (there : present_at new.tables k ≡ true) (r : Rowed new.tables out₀ out sum at k) where
    -- a record ends before the first table
    pub row_room : at + 16 ≤ (place_at new.tables k).offset
    unfolding directory_length
    row_room =
        let c = count-there new.tables k there in
        let g = count-grows new.tables (k + 1) 11 (omega arith) in
        let o = ready-offset out₀ new ready k h there in
        let e = ready.placed.counts in
        let n = r.next in
        omega arith

    rows-length : 12 + length (rows_from (directory_length (count_to new.tables 11)) (entries_to new.tables (content_at out₀ new.tables) k)) ≡ at
    rows-length =
        let es = entries_to new.tables (content_at out₀ new.tables) k in
        let l = length-rows (directory_length (count_to new.tables 11)) es in
        let c = length-entries new.tables (content_at out₀ new.tables) k in
        let n = r.next in
        omega arith

    -- the records leave the tables as they were
    pub row-part : part out (place_at new.tables k).offset (place_at new.tables k).length ≡ content_at out₀ new.tables k
    unfolding content_at
    row-part =
        let q = place_at new.tables k in
        let l = rows-length in
        let m = row_room in
        ap (λ (x : Bytes). part x q.offset q.length) r.rows
        ∙ part-put out₀ (rows_from (directory_length (count_to new.tables 11)) (entries_to new.tables (content_at out₀ new.tables) k)) 12 q.offset q.length front-room (omega arith)

    pub rowed-there : (out' : Bytes) (sum' : ℕ)
        → out' ≡ put out at (row (place_at new.tables k).offset (get_or tag_words k 0, part out (place_at new.tables k).offset (place_at new.tables k).length))
        → sum' ≡ (sum + checksum (part out (place_at new.tables k).offset (place_at new.tables k).length)) % 2 ^ 32
        → Rowed new.tables out₀ out' sum' (at + 16) (k + 1)
    rowed-there out' sum' eo es = record { below = omega arith; next = next'; sums = sums'; rows = rows' }
      where
        t : Tables
        t = new.tables

        body : ℕ → Bytes
        body = content_at out₀ t

        next' : at + 16 ≡ 12 + 16 * count_to new.tables (k + 1)
        next' = let c = count-there new.tables k there in let n = r.next in omega arith

        sums' : sum' ≡ checksum (bodies (entries_to new.tables (content_at out₀ new.tables) (k + 1)))
        sums' =
            let b = content_at out₀ new.tables k in
            let s = sum_snoc (entries_to new.tables (content_at out₀ new.tables) k) (get_or tag_words k 0) b in
            let e = ap (λ (l : List Entry). word_sum (bodies l)) (entries-there new.tables (content_at out₀ new.tables) k there) in
            let p = ap checksum row-part in
            let q = r.sums in
            omega arith

        rows' : out' ≡ put out₀ 12 (rows_from (directory_length (count_to new.tables 11)) (entries_to new.tables (content_at out₀ new.tables) (k + 1)))
        rows' =
            let c = content_at out₀ new.tables in
            let l = entries_to new.tables c k in
            let d = directory_length (count_to new.tables 11) in
            let o = ready-offset out₀ new ready k h there ∙ ap (λ (n : ℕ). n + length (bodies l)) (sym d-same) in
            let tag = get_or tag_words k 0 in
            eo
            ∙ ap₂ (λ (x b : Bytes). put x at (row (place_at new.tables k).offset (tag, b))) r.rows row-part
            ∙ put_next out₀ (rows_from d l) (row (place_at new.tables k).offset (tag, c k)) 12 at front-room (sym rows-length)
            ∙ ap (λ (n : ℕ). put out₀ 12 (rows_from d l ++ row n (tag, c k))) o
            ∙ ap (put out₀ 12) (sym (rows_append d l (tag, c k)) ∙ ap (rows_from d) (sym (entries-there new.tables c k there)))

  pub rowed_end : (out : Bytes) (sum at k : ℕ) → 11 ≤ k → Rowed new.tables out₀ out sum at k
      → Leaves (checksum (bodies (laid out₀ new.tables))) (put out₀ 12 (rows_from (directory_length new.count) (laid out₀ new.tables))) sum out
  unfolding laid
  rowed_end out sum at k h r =
      let b = r.below in
      let e : k ≡ 11 = omega arith in
      record {
        gives = r.sums ∙ ap (λ (n : ℕ). checksum (bodies (entries_to new.tables (content_at out₀ new.tables) n))) e;
        holds = r.rows ∙ ap₂ (λ (n m : ℕ). put out₀ 12 (rows_from n (entries_to new.tables (content_at out₀ new.tables) m))) d-same e;
      }

  -- the directory: header before the rows
  directory-front : over (header new.count) (put out₀ 12 (rows_from (directory_length new.count) (laid out₀ new.tables))) ≡ over (directory_of (laid out₀ new.tables)) out₀
  unfolding directory_of directory_length
  directory-front =
      put_front out₀ (header new.count) (rows_from (directory_length new.count) (laid out₀ new.tables)) 12 refl front-room
      ∙ ap (λ (n : ℕ). over (header n ++ rows_from (12 + 16 * n) (laid out₀ new.tables)) out₀) (sym (ready-count out₀ new ready))

  directory-length : length (directory_of (laid out₀ new.tables)) ≡ directory_length new.count
  directory-length = length-directory (laid out₀ new.tables) ∙ ap directory_length (ready-count out₀ new ready)

  -- the directory before the tables, and head's four bytes
  file-put : put (over (directory_of (laid out₀ new.tables)) out₀) ((place_at new.tables 3).offset + 8) (be32 (adjustment (laid out₀ new.tables)))
      ≡ over (file (laid out₀ new.tables)) out₀
  unfolding file
  file-put =
      let es = laid out₀ new.tables in
      let dir = directory_of es in
      let x = adjustment es in
      let d = directory_length new.count in
      let all = dir ++ bodies es in
      let f = first-room new ready.placed in
      let room = ready.room in
      let m = place-room new ready.placed 3 (omega arith) ready.head in
      let long = ready.long in
      let end = ready_end out₀ new ready in
      let dl = directory-length in
      let la : length all ≡ new.end = simp length-append (omega arith) in
      let same : over dir out₀ ≡ over all out₀ =
      ap (over dir) (sym (put-stands out₀ d (bodies es) ready.stands)) ∙ put_front out₀ dir (bodies es) d dl (omega arith) in
      let hp : put all ((place_at new.tables 3).offset + 8) (be32 x) ≡ dir ++ bodies (adjust x es) = headed x in
      ap (λ (z : Bytes). put z ((place_at new.tables 3).offset + 8) (be32 x)) same
      ∙ put-within all out₀ (be32 x) ((place_at new.tables 3).offset + 8) (omega arith) ∙ ap (λ (z : Bytes). over z out₀) hp
    where
      headed : (x : ℕ) → put (directory_of (laid out₀ new.tables) ++ bodies (laid out₀ new.tables)) ((place_at new.tables 3).offset + 8) (be32 x)
          ≡ directory_of (laid out₀ new.tables) ++ bodies (adjust x (laid out₀ new.tables))
      headed x =
          unfold laid in
          (ap (λ (n : ℕ). put (directory_of (laid out₀ new.tables) ++ bodies (laid out₀ new.tables)) (n + 8) (be32 x)) (ready.placed.offsets 3 (omega arith) ready.head)
          ∙ head-put new.tables (content_at out₀ new.tables) (ready-sized out₀ new ready) ready.head ready.long x (directory_of (laid out₀ new.tables)) (directory_length new.count) directory-length)

  -- all of `finish`, from what its calls leave
  pub finished : (sum : ℕ) (o₁ o₂ o₃ : Bytes)
      → sum ≡ checksum (bodies (laid out₀ new.tables))
      → o₁ ≡ put out₀ 12 (rows_from (directory_length new.count) (laid out₀ new.tables))
      → o₂ ≡ over (header new.count) o₁
      → o₃ ≡ put o₂ ((place_at new.tables 3).offset + 8) (be32 (adjusting ((checksum (take (12 + 16 * new.count) o₂) + sum) % 2 ^ 32)))
      → o₃ ≡ over (file (laid out₀ new.tables)) out₀
  finished sum o₁ o₂ o₃ es e₁ e₂ e₃ =
      let dir = directory_of (laid out₀ new.tables) in
      let e₂' : o₂ ≡ over dir out₀ = e₂ ∙ ap (over (header new.count)) e₁ ∙ directory-front in
      e₃ ∙ ap₂ (λ (z : Bytes) (n : ℕ). put z ((place_at new.tables 3).offset + 8) (be32 n)) e₂' (number e₂')
      ∙ file-put
    where
      front : o₂ ≡ over (directory_of (laid out₀ new.tables)) out₀ → take (12 + 16 * new.count) o₂ ≡ directory_of (laid out₀ new.tables)
      front e =
          unfold over directory_length in
          (ap (take (12 + 16 * new.count)) e
          ∙ take_at (directory_of (laid out₀ new.tables)) (drop (length (directory_of (laid out₀ new.tables))) out₀) (12 + 16 * new.count) directory-length)

      number : o₂ ≡ over (directory_of (laid out₀ new.tables)) out₀
          → adjusting ((checksum (take (12 + 16 * new.count) o₂) + sum) % 2 ^ 32) ≡ adjustment (laid out₀ new.tables)
      number e =
          unfold adjustment in
          ap adjusting
          (ap₂ (λ (b : Bytes) (n : ℕ). (checksum b + n) % 2 ^ 32) (front e) es ∙ sym (sum-file (laid out₀ new.tables)))

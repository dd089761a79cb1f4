-- What `Ready` gives: each table lies in the file, at the place where those before it end.
use Rattle.std.proofs.Common.{◌≡◌, ℕ, ◌+◌, ◌<◌, ◌≤◌, true, length, sym, ◌∙◌, arith}
use Rattle.model.specs.Bytes.{Bytes}
use Rattle.model.specs.File.{bodies}
use Rattle.places.specs.Places.{place_at, present_at, content_at}
use Rattle.construct.specs.declared.Layout.{Layout}
use Rattle.construct.specs.Construct.{raised, directory_length, entries_to, laid, Sized, Placed, Ready}
use Rattle.construct.proofs.Files.{raised-room}
use Rattle.construct.proofs.Stand.{length_part}
use Rattle.construct.proofs.Lists.{start-room, start-grows, start_first, start-bodies, count-there, count-grows, length-entries}

module _ (new : Layout) (p : Placed new) where
  -- room for a table and its zeros
  pub pad_room : (k : ℕ) → k < 11 → present_at new.tables k ≡ true
      → (place_at new.tables k).offset + raised (place_at new.tables k).length ≤ new.end
  pad_room k h t =
      let r = start-room new.tables (directory_length new.count) k h t in
      let o = p.offsets k h t in
      let e = p.ends in
      omega arith

  pub place-room : (k : ℕ) → k < 11 → present_at new.tables k ≡ true
      → (place_at new.tables k).offset + (place_at new.tables k).length ≤ new.end
  place-room k h t = let r = pad_room k h t in let z = raised-room (place_at new.tables k).length in omega arith

  pub first-room : directory_length new.count ≤ new.end
  first-room =
      let d = directory_length new.count in
      let g = start-grows new.tables d 0 11 (omega arith) in
      let f = start_first new.tables d in
      let e = p.ends in
      omega arith

module _ (out : Bytes) (new : Layout) (r : Ready out new) where
  pub ready-sized : Sized new.tables (content_at out new.tables)
  unfolding content_at
  ready-sized k h t =
      let q = place_at new.tables k in
      let m = place-room new r.placed k h t in
      let room = r.room in
      length_part out q.offset q.length (omega arith)

  pub ready-offset : (k : ℕ) → k < 11 → present_at new.tables k ≡ true
      → (place_at new.tables k).offset ≡ directory_length new.count + length (bodies (entries_to new.tables (content_at out new.tables) k))
  ready-offset k h t =
      r.placed.offsets k h t
      ∙ start-bodies new.tables (content_at out new.tables) ready-sized (directory_length new.count) k (omega arith)

  pub ready-count : length (laid out new.tables) ≡ new.count
  unfolding laid
  ready-count = length-entries new.tables (content_at out new.tables) 11 ∙ sym r.placed.counts

  pub ready_end : new.end ≡ directory_length new.count + length (bodies (laid out new.tables))
  unfolding laid
  ready_end = r.placed.ends ∙ start-bodies new.tables (content_at out new.tables) ready-sized (directory_length new.count) 11 (omega arith)

  -- head is there
  pub count-some : 1 ≤ new.count
  count-some =
      let t = count-there new.tables 3 r.head in
      let g = count-grows new.tables 4 11 (omega arith) in
      let e = r.placed.counts in
      omega arith

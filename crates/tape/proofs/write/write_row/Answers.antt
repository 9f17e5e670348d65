use Rattle.std.proofs.Common.{◌≡◌, ℕ, ◌+◌, ◌-◌, ◌*◌, ◌<◌, ◌≤◌, List, ◌∷◌, [], ◌++◌, length, take, Some, refl, sym, ap, ◌∙◌, subst, arith, rules}
use Rattle.std.proofs.lemmas.List.{flat_map_more, length-take-le, take_more}
use Rattle.std.specs.List.{flat_map}
use borrow.Rule.Slice.PartMut.{put_mid}
use Rattle.tape.proofs.Laid.{wrote_more, wrote_part, length_after}
use Rattle.tape.proofs.Rows.{length_rows, row_next}
use Rattle.tape.specs.Writing.{Wrote}
use Rattle.tape.proofs.write.write_row.Goals as goal

pub returns-then-not-fits : goal.returns-then-not-fits
returns-then-not-fits g c =
    let long = length_rows g.F.Field.bytes_of g.F.Field.WIDTH g.met.F.Field.laws.long c.args.row.now in
    let need = ap (λ w. w * length c.args.row.now) c.WIDTH.ensures in
    let short : length c.args.out.now < c.args.at + (1 + c.WIDTH.result * length c.args.row.now) = search rules in
    (omega (arith, long, need, short), refl {a = c.args.out.now})

-- there is room for each number
pub place_fits : {T : Type 0} (bytes_of : T → List ℕ) (width : ℕ) → ((x : T) → length (bytes_of x) ≡ width) → (row : List T) (i b at mid : ℕ) (buf part : List ℕ)
    → i < length row → at + (1 + width * length row) ≤ length buf → Wrote buf at (b ∷ flat_map bytes_of (take i row)) (Some mid) part → mid + width ≤ length part
place_fits bytes_of width each row i b at mid buf part more room there =
    let buffer = length_after buf at (b ∷ flat_map bytes_of (take i row)) mid part there in
    let before = length_rows bytes_of width each (take i row) ∙ ap (λ k. width * k) (length-take-le i row (omega arith)) in
    let next = row_next width i (length row) more in
    omega (arith, room, buffer, before, next, there.1)

pub slice_bounds-write-end : goal.slice_bounds-write-end
slice_bounds-write-end g c =
    let f = g.F.Field in
    let row = c.args.row.now in
    let need = ap (λ w. w * length row) c.WIDTH.ensures in
    let room : c.args.at + (1 + c.WIDTH.result * length row) ≤ length c.args.out.now = search rules in
    let place = place_fits f.bytes_of f.WIDTH g.met.F.Field.laws.long row c.loop-number.number-index c.args.letter c.args.at c.loop-number.next c.args.out.now c.loop-number.out c.loop-number-test.true (omega (arith, room, need)) c.loop-number.invariant in
    omega (arith, place, c.WIDTH-in-loop-number.ensures)

pub loop-number-preserved : goal.loop-number-preserved
loop-number-preserved g c =
    let f = g.F.Field in
    let i = c.loop-number.number-index in
    let row = c.args.row.now in
    let x = c.number-item.result in
    let next = c.loop-number.next in
    let end = next + c.WIDTH-in-loop-number.result in
    let front = c.args.letter ∷ flat_map f.bytes_of (take i row) in
    let need = ap (λ w. w * length row) c.WIDTH.ensures in
    let room : c.args.at + (1 + c.WIDTH.result * length row) ≤ length c.args.out.now = search rules in
    let long = g.met.F.Field.laws.long in
    let place = place_fits f.bytes_of f.WIDTH long row i c.args.letter c.args.at next c.args.out.now c.loop-number.out c.loop-number-test.true (omega (arith, room, need)) c.loop-number.invariant in
    let wide = long x ∙ sym c.WIDTH-in-loop-number.ensures in
    let one = wrote_part c.loop-number.out next end (f.bytes_of x) c.in_ok-write.field-0 c.write.new.out (omega (arith, place, c.WIDTH-in-loop-number.ensures)) (omega (arith, wide)) c.in_ok-write.ensures in
    let more = wrote_more c.args.out.now c.args.at front next c.loop-number.out (f.bytes_of x) end (put_mid next (end - next) c.loop-number.out c.write.new.out) c.loop-number.invariant one in
    let taken = take_more row i x (search rules) ∙ ap (λ y. take i row ++ y ∷ []) (sym c.number-item.is) in
    let bytes = flat_map_more f.bytes_of [] (take i row) x ∙ ap (flat_map f.bytes_of) (sym taken) in
    subst (λ bs. Wrote c.args.out.now c.args.at (c.args.letter ∷ bs) (Some end) (put_mid next (end - next) c.loop-number.out c.write.new.out)) bytes more

-- There was room for the numbers of all checkpoints, and there still is for those that are left.
use Rattle.std.specs.Prelude as prelude
use Rattle.ckpt_core.proofs.{◌≡◌, ◌+◌, ◌-◌, ℕ, ◌<◌, ◌≤◌, ◌++◌, List, [], ◌∷◌, length, ap, arith, common_steps, Some, length-map, vec_capacity, Record, lowest, numbers}
use Rattle.ckpt_core.proofs.Ending.Past.{newest_more, fewer_more, noted_oldest}
use Rattle.ckpt_core.specs.Inside.Settings.{newest}
use Rattle.std.proofs.Common.{length-append}
use Rattle.ckpt_core.proofs.parts.Parts.note_and_pop_past.Goals as goal

one_there : (rs : List Record) (id : ℕ) → Some id ≡ lowest rs → 0 < length rs
one_there [] id e = absurd (cc)
one_there (r ∷ rs) id e = omega arith

room_left : (now was : List ℕ) (rs qs : List Record) (room : ℕ) → now ++ numbers rs ≡ was ++ numbers qs → length was + length qs ≤ room → 0 < length rs → length now < room
room_left now was rs qs room e fits one =
    omega (arith, ap length e, length-append now (numbers rs), length-append was (numbers qs), length-map rs (λ (r : Record). r.id), length-map qs (λ (r : Record). r.id))

pub push_reserved-requires : goal.push_reserved-requires
push_reserved-requires c =
    let p = c.args.self.now in
    let q = c.loop-self.self in
    let room : length p.ended.items + length p.store.checkpoints ≤ vec_capacity q.ended = omega (arith, c.requires.room, c.loop-self.invariant.capacity) in
    let one = one_there q.store.checkpoints c.in-Some.id c.in-Some.ensures.dropped in
    omega (arith, room_left q.ended.items p.ended.items q.store.checkpoints p.store.checkpoints (vec_capacity q.ended) c.loop-self.invariant.items room one)

pub loop-self-preserved-in-Some : goal.loop-self-preserved-in-Some
loop-self-preserved-in-Some c =
    let row : List Record = c.args.self.now.store.checkpoints in
    let now : List Record = c.loop-self.self.store.checkpoints in
    let after : List Record = c.pop_lowest.new.self.checkpoints in
    let one : after ≡ prelude.drop 1 now = ap (λ s. s.checkpoints) c.pop_lowest.ensures.value in
    let many : c.args.retained < length now = omega (arith, c.loop-self-test.true, c.checkpoints.ensures.value) in
    let rest : after ≡ newest (length after) row = newest_more now after row one c.loop-self.invariant.rest (omega arith) in
    let enough : length row - length after ≤ length row - c.args.retained = fewer_more c.args.retained now after row one many in
    grind (arith, common_steps, rest, enough)

pub returns-clause-noted : goal.returns-clause-noted
returns-clause-noted c =
    let i = c.loop-self.invariant in
    let few : length c.loop-self.self.store.checkpoints ≤ c.args.retained = omega (arith, c.loop-self-test.false, c.checkpoints.ensures.value) in
    noted_oldest c.args.retained c.loop-self.self.store.checkpoints c.args.self.now.store.checkpoints c.loop-self.self.ended.items c.args.self.now.ended.items i.items i.rest i.enough few

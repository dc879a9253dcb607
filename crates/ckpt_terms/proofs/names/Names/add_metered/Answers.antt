-- Answers the goals of `Names::add_metered`.
use Rattle.ckpt_terms.proofs.Imports.{◌≡◌, ◌<◌, ◌≤◌, ◌+◌, ◌++◌, ℕ, List, length, arith, refl, sym, subst, ap, ◌∙◌, vec_len, vec_capacity, range_with_len, IsIn, Span, AreKept, joined, names_of}
use Rattle.ckpt_terms.proofs.{SpanLemmas.few_between, SpanLemmas.span, RangeLemmas.fewer, RangeLemmas.added, RangeLemmas.joined_is}
use Rattle.ckpt_terms.proofs.names.Names.add_metered.Goals as goal

-- all names are below the first of the new ones, so they are no more than that
pub overflow_add-held : goal.overflow_add-held
overflow_add-held c =
    let xs : List Span = c.self.inside.spans.items in
    let Below : List ℕ → Type 0 = λ names. (f : ℕ) → IsIn f names → f < c.args.first in
    let below : Below (names_of xs) = subst Below (sym c.self.view_is) c.requires.above in
    let few : 0 + length (names_of xs) ≤ c.args.first = few_between (names_of xs) 0 c.args.first (omega arith) c.self.invariant.ranges.ascending (λ f h. (omega arith, below f h)) in
    omega (arith, few, c.self.invariant.names, c.requires.room)

pub join-requires : goal.join-requires
join-requires c =
    let xs : List Span = c.self.inside.spans.items in
    let few : length xs ≤ length (names_of xs) = fewer xs c.self.invariant.ranges.some in
    let same : length (names_of xs) ≡ c.self.inside.held = c.self.invariant.names in
    omega (arith, c.in_ok-make_room.ensures.room, c.in_ok-make_room.ensures.len)

pub invariant_of-self-2 : goal.invariant_of-self-2
invariant_of-self-2 c =
    let xs : List Span = c.self.inside.spans.items in
    let len : ℕ = vec_len c.self.inside.spans in
    let room : ℕ = vec_capacity c.join.new.spans in
    let held : ℕ = c.self.inside.held + c.args.count in
    let new : Span = span c.args.first (c.args.first + c.args.count) in
    let Below : List ℕ → Type 0 = λ names. (f : ℕ) → IsIn f names → f < c.args.first in
    let Items : List Span → Type 0 = λ ys. AreKept ys held (vec_len c.join.new.spans) room in
    let put : c.join.new.spans.items ≡ joined xs new = c.join.ensures.items ∙ ap (λ ys. joined ys new) c.in_ok-make_room.ensures.items in
    let longer : vec_len c.join.new.spans ≤ len + 1 = omega (arith, c.in_ok-make_room.ensures.len, c.join.ensures.len) in
    let fits : held + len + 1 ≤ room + room = omega (arith, c.in_ok-make_room.ensures.room, c.join.ensures.capacity) in
    let some : 0 < c.args.count = omega arith in
    subst Items (sym put)
    (added xs c.args.first c.args.count c.self.inside.held len (vec_capacity c.self.inside.spans) held (vec_len c.join.new.spans) room c.self.invariant
    (subst Below (sym c.self.view_is) c.requires.above) some refl fits longer)

pub returns-clause-ok : goal.returns-clause-ok
returns-clause-ok c =
    let xs : List Span = c.self.inside.spans.items in
    let new : Span = span c.args.first (c.args.first + c.args.count) in
    let put : c.join.new.spans.items ≡ joined xs new = c.join.ensures.items ∙ ap (λ ys. joined ys new) c.in_ok-make_room.ensures.items in
    ap names_of put ∙ joined_is xs c.args.first c.args.count c.self.invariant.ranges (omega arith) ∙ ap (λ ns. ns ++ range_with_len c.args.first c.args.count) c.self.view_is

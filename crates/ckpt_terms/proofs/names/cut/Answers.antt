-- Answers the goals of `cut`.
use Rattle.ckpt_terms.proofs.Imports.{◌≤◌, ◌+◌, List, length, arith, sym, subst, Span, IsCut, names_of}
use Rattle.ckpt_terms.proofs.RangeLemmas.{removed, shortened, begun_later, split_at, two_more}
use Rattle.ckpt_terms.proofs.names.cut.Goals as goal

pub unreachable-requires : goal.unreachable-requires
unreachable-requires c =
    let xs : List Span = c.args.spans.now.items in
    let more : length xs + 2 ≤ length (names_of xs) = two_more xs c.args.place c.args.name c.args.span c.requires.at c.requires.ranges c.in-true-true.is-0 c.in-true-true.is-1 in
    omega (arith, c.in-Err.ensures.full)

pub returns-in-Ok-clause-cut : goal.returns-in-Ok-clause-cut
returns-in-Ok-clause-cut c =
    let xs : List Span = c.args.spans.now.items in
    let Is : List Span → Type 0 = λ ys. IsCut xs ys c.args.name in
    subst Is (sym c.in-Ok.ensures.items) (split_at xs c.args.place c.args.name c.args.span c.requires.at c.requires.ranges c.in-true-true.is-0 c.in-true-true.is-1)

pub returns-in-Ok-clause-room : goal.returns-in-Ok-clause-room
returns-in-Ok-clause-room c =
    let k = (returns-in-Ok-clause-cut c).count in
    omega (arith, c.in-Ok.ensures.len, c.in-Ok.ensures.capacity)

pub returns-in-true-false-clause-cut : goal.returns-in-true-false-clause-cut
returns-in-true-false-clause-cut c = shortened c.args.spans.now.items c.args.place c.args.name c.args.span c.requires.at c.requires.ranges c.in-true-false.is-0 c.in-true-false.is-1

pub returns-in-true-false-clause-room : goal.returns-in-true-false-clause-room
returns-in-true-false-clause-room c = let k = (returns-in-true-false-clause-cut c).count in omega arith

pub returns-in-false-true-clause-cut : goal.returns-in-false-true-clause-cut
returns-in-false-true-clause-cut c = begun_later c.args.spans.now.items c.args.place c.args.name c.args.span c.requires.at c.requires.ranges c.in-false-true.is-0 c.in-false-true.is-1

pub returns-in-false-true-clause-room : goal.returns-in-false-true-clause-room
returns-in-false-true-clause-room c = let k = (returns-in-false-true-clause-cut c).count in omega arith

pub returns-in-false-false-clause-cut : goal.returns-in-false-false-clause-cut
returns-in-false-false-clause-cut c =
    removed c.args.spans.now.items c.remove.new.self.items c.args.place c.args.name c.args.span c.requires.at c.requires.ranges c.in-false-false.is-0 c.in-false-false.is-1 c.remove.ensures.items

pub returns-in-false-false-clause-room : goal.returns-in-false-false-clause-room
returns-in-false-false-clause-room c = let k = (returns-in-false-false-clause-cut c).count in omega arith

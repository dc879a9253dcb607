-- Answers the goals of `join`.
use Rattle.ckpt_terms.proofs.Imports.{◌≡◌, ◌++◌, ◌∷◌, [], List, ap, ◌∙◌, arith, vec_len, option_to_list, Option, Span}
use Rattle.ckpt_terms.proofs.JoinLemmas.{join_none, join_off, join_on}
use Rattle.ckpt_terms.proofs.names.join.Goals as goal

pub returns-in-Some-clause-items : goal.returns-in-Some-clause-items
returns-in-Some-clause-items c =
    let front : List Span = c.pop.new.self.items in
    let old : c.args.spans.now.items ≡ front ++ c.in-Some.last ∷ [] = c.pop.ensures.items ∙ ap (λ (r : Option Span). front ++ option_to_list r) c.in-Some.is in
    c.push_reserved.ensures.items ∙ join_on c.args.spans.now.items front c.in-Some.last c.args.new old c.if-last-new.true

pub returns-in-Some-2-clause-items : goal.returns-in-Some-2-clause-items
returns-in-Some-2-clause-items c =
    let front : List Span = c.pop.new.self.items in
    let old : c.args.spans.now.items ≡ front ++ c.in-Some.last ∷ [] = c.pop.ensures.items ∙ ap (λ (r : Option Span). front ++ option_to_list r) c.in-Some.is in
    c.push_reserved-in-Some-2-2.ensures.items
    ∙ ap (λ (ys : List Span). ys ++ c.args.new ∷ []) c.push_reserved-in-Some-2.ensures.items
    ∙ join_off c.args.spans.now.items front c.in-Some.last c.args.new old c.if-last-new.false

pub returns-in-None-clause-items : goal.returns-in-None-clause-items
returns-in-None-clause-items c =
    let front : List Span = c.pop.new.self.items in
    let old : c.args.spans.now.items ≡ front ++ [] = c.pop.ensures.items ∙ ap (λ (r : Option Span). front ++ option_to_list r) c.in-None.is in
    let none : vec_len c.pop.new.self ≡ 0 = c.in-None.ensures.cases.1 in
    c.push_reserved-in-None.ensures.items ∙ join_none c.args.spans.now.items front c.args.new old (omega (arith, none, c.pop.new.self.ok))

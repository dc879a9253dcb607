-- Answers the goals of `place_below`.
use Rattle.ckpt_ids.proofs.Names.{rules, answers_always}
use Rattle.ckpt_ids.proofs.PlaceLemmas.{search_absent, search_found}
use Rattle.ckpt_ids.proofs.places.place_below.Goals as goal

pub returns-in_default-clause-found : goal.returns-in_default-clause-found
returns-in_default-clause-found g c =
    let facts = c.binary_search_by_key.ensures in
    let by_key = facts.position g.T.Keyed.key_of (answers_always _ _ _ (λ f a r g called. search rules)) in
    search_found g.T.Keyed.key_of g.met.T.Keyed.is_order g.met.T.Keyed.goes_by_order c.args.key c.args.row.now.items c.binary_search_by_key.result (rw (← c.args.row.now.ok.0) facts.bound) by_key

pub returns-in_default-clause-absent : goal.returns-in_default-clause-absent
returns-in_default-clause-absent g c =
    let facts = c.binary_search_by_key.ensures in
    let by_key = facts.position g.T.Keyed.key_of (answers_always _ _ _ (λ f a r g called. search rules)) in
    search_absent g.T.Keyed.key_of g.met.T.Keyed.is_order g.met.T.Keyed.goes_by_order c.args.key c.args.row.now.items c.binary_search_by_key.result c.requires
    (rw (← c.args.row.now.ok.0) facts.bound) by_key

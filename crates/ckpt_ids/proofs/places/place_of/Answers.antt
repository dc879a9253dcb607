-- Answers the goals of `place_of`.
use Rattle.std.proofs.Common.{◌≡◌, ◌∙◌, length, rules, true}
use Rattle.ckpt_ids.proofs.PlaceLemmas.{all_before, end_belongs}
use Rattle.ckpt_ids.proofs.places.place_of.Goals as goal

pub returns-in-Less-clause-absent : goal.returns-in-Less-clause-absent
returns-in-Less-clause-absent g c =
    let row = c.args.row.now.items in
    let last = c.in-Some.last.now in
    let key_of = g.T.Keyed.key_of in
    let is_order = g.met.T.Keyed.is_order in
    let all : c.len.result ≡ length row = c.len.ensures ∙ c.args.row.now.ok.0 in
    let before : g.T.Keyed.before (key_of last) c.args.key ≡ true = g.met.T.Keyed.goes_by_order.less (key_of last) c.args.key (search rules) in
    end_belongs key_of is_order c.args.key row c.len.result all (all_before key_of is_order c.args.key row c.len.result last c.requires all (rw c.len.ensures c.in-Some.ensures.lookup) before)

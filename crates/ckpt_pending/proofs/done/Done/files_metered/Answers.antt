-- Answers the goals of `Done::files_metered`.
use Rattle.ckpt_pending.proofs.{◌≡◌, ◌∙◌, ◌∷◌, [], sym, ap, map, flat_map, IfOk-weaker, ascending_set, uses, files_of_uses}
use Rattle.ckpt_pending.proofs.done.Done.files_metered.Goals as goal

pub returns-clause-files : goal.returns-clause-files
returns-clause-files c =
    let same : map (λ u. u.file) (uses (c.args.self.now ∷ [])) ≡ flat_map (λ a. a.files) c.args.self.now.acks = files_of_uses c.args.self.now (rw (← c.self.view_is) c.self.invariant.no_pins) in
    let inside : flat_map (λ a. a.files) c.self.inside.record.acks ≡ flat_map (λ a. a.files) c.args.self.now.acks = ap (λ r. flat_map (λ a. a.files) r.acks) c.self.view_is in
    IfOk-weaker c.files.result _ _ (λ files (h : files ≡ ascending_set (flat_map (λ a. a.files) c.self.inside.record.acks)). h ∙ ap ascending_set (inside ∙ sym same)) c.files.ensures.files

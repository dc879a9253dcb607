-- The files of a pending record, of a stored one, or of none.
use Rattle.ckpt_core.proofs.{◌≡◌, ◌∙◌, Some, None, sym, ap, find, option_and_then, option_copied, Record, files_from, state_of, record_of, pending_live, stored_record, live_in_order, has_number}
use Rattle.ckpt_core.proofs.parts.Parts.files_of.Goals as goal

pub returns-in-Some : goal.returns-in-Some
returns-in-Some c =
    let p = c.args.self.now in
    let found : find (has_number c.args.id) p.pending ≡ Some c.in-Some.pending.now = sym c.get.ensures.value ∙ ap option_copied c.in-Some.is in
    c.files_of.ensures ∙ sym (ap (option_and_then (λ (r : Record). files_from r c.args.subtask)) (pending_live p c.args.id c.in-Some.pending.now (live_in_order p c.requires) found))

pub returns-in_err-get : goal.returns-in_err-get
returns-in_err-get c =
    let p = c.args.self.now in
    let none : find (has_number c.args.id) p.pending ≡ None = sym c.get.ensures.value ∙ ap option_copied c.in_default.is in
    let there : record_of (state_of p) c.args.id ≡ None = stored_record p c.args.id (live_in_order p c.requires) none ∙ sym c.get-2.ensures.value ∙ ap option_copied c.in_err-get.was in
    ap option_copied c.from_residual.ensures ∙ sym (ap (option_and_then (λ (r : Record). files_from r c.args.subtask)) there)

pub returns : goal.returns
returns c =
    let none : find (has_number c.args.id) c.args.self.now.pending ≡ None = sym c.get.ensures.value ∙ ap option_copied c.in_default.is in
    let there : record_of (state_of c.args.self.now) c.args.id ≡ Some c.in_ok-get.field-0.now = stored_record c.args.self.now c.args.id (live_in_order c.args.self.now c.requires) none
    ∙ sym c.get-2.ensures.value ∙ ap option_copied c.in_ok-get.was in
    c.files_of-2.ensures ∙ sym (ap (option_and_then (λ (r : Record). files_from r c.args.subtask)) there)

-- A live record is pending or stored, and its metadata does not have its pins.
use Rattle.ckpt_core.proofs.{◌≡◌, Some, None, sym, ap, ◌∙◌, find, IsSome, option_copied, option_map, metadata_of, on_each_error, state_of, record_of, some_there, has_number, pending_live}
use Rattle.ckpt_core.proofs.{pending_metadata, stored_metadata, stored_record}
use Rattle.ckpt_store.specs.Storing as storing
use Rattle.ckpt_core.proofs.parts.Parts.metadata.Goals as goal

pub returns-in_err-metadata_metered-clause-memory : goal.returns-in_err-metadata_metered-clause-memory
returns-in_err-metadata_metered-clause-memory c =
    let found : find (has_number c.args.id) c.args.self.now.pending ≡ Some c.in-Some.record.now = sym c.get.ensures.value ∙ ap option_copied c.in-Some.is in
    on_each_error c.from_residual.result (IsSome (record_of (state_of c.args.self.now) c.args.id)) (some_there _ _ (pending_live c.args.self.now c.args.id c.in-Some.record.now c.requires found))

pub returns-in-Some-clause-value : goal.returns-in-Some-clause-value
returns-in-Some-clause-value c =
    sym (pending_metadata c.args.self.now c.args.id c.in-Some.record.now c.in_ok-metadata_metered.field-0 c.requires (sym c.get.ensures.value ∙ ap option_copied c.in-Some.is) c.in_ok-metadata_metered.ensures.value)

pub returns-in_err-metadata_metered-in-Some-get-clause-memory : goal.returns-in_err-metadata_metered-in-Some-get-clause-memory
returns-in_err-metadata_metered-in-Some-get-clause-memory c =
    let p = c.args.self.now in
    let none : find (has_number c.args.id) p.pending ≡ None = sym c.get.ensures.value ∙ ap option_copied c.in_default.is in
    let there : storing.record_of p.store c.args.id ≡ Some c.in-Some-get.record.now = sym c.get-2.ensures.value ∙ ap option_copied c.in-Some-get.is in
    on_each_error c.from_residual-in_err-metadata_metered-in-Some-get.result (IsSome (record_of (state_of p) c.args.id)) (some_there _ _ (stored_record p c.args.id c.requires none ∙ there))

pub returns-in_ok-metadata_metered-in-Some-get-clause-value : goal.returns-in_ok-metadata_metered-in-Some-get-clause-value
returns-in_ok-metadata_metered-in-Some-get-clause-value c =
    let none : find (has_number c.args.id) c.args.self.now.pending ≡ None = sym c.get.ensures.value ∙ ap option_copied c.in_default.is in
    let there : storing.record_of c.args.self.now.store c.args.id ≡ Some c.in-Some-get.record.now = sym c.get-2.ensures.value ∙ ap option_copied c.in-Some-get.is in
    sym (stored_metadata c.args.self.now c.args.id c.in-Some-get.record.now c.in_ok-metadata_metered-in-Some-get.field-0 c.requires none there c.in_ok-metadata_metered-in-Some-get.ensures.value)

pub returns-in-None-clause-value : goal.returns-in-None-clause-value
returns-in-None-clause-value c =
    let p = c.args.self.now in
    sym (ap (option_map metadata_of) (stored_record p c.args.id c.requires (sym c.get.ensures.value ∙ ap option_copied c.in_default.is) ∙ (sym c.get-2.ensures.value ∙ ap option_copied c.in-None.is)))

-- What a Show returns for a pending record.
use Rattle.ckpt_session.proofs.Names.{◌≡◌, ℕ, Bool, true, false, ◌&&◌, cond, eqb, refl, sym, ap, ◌∙◌, ⊎_elim, Option, Some, None, option_map, cases_Bool, and_parts, eqb-true, both_ways, not-true}
use Rattle.ckpt_session.proofs.Names.{Show, IsIn, Record, metadata_of, State, is_pending, record_of, refusal, pending_of, IsSound, Stepped, step, effect, show, pending_metadata, shown_pending}
use Rattle.ckpt_model.proofs.Records.Counts.{IsIn-from_find}
use Rattle.ckpt_model.proofs.Histories.Choice.{found}
use Rattle.ckpt_model.proofs.Reordering.MissingFiles.{pending_record}

-- a Show changes nothing
step-show : (m : State) (id : ℕ) (o : Option Record) → record_of m id ≡ o → step m (Show id) ≡ (m, show o)
unfolding step refusal effect
step-show m id None e = rw e refl
step-show m id (Some r) e = rw e (ap (λ (o : Option Record). (m, show o)) e)

-- in a sound state a pending record is the one of its number
pub its_record : (m : State) (id : ℕ) (r : Record) → IsSound m → pending_of m.records id ≡ Some r → (record_of m id ≡ Some r) × (r.done ≡ false)
its_record m id r sound e =
    let narrow : Record → Bool = λ x. is_pending x && eqb x.id id in
    let there : IsIn r m.records × (narrow r ≡ true) = IsIn-from_find narrow r m.records e in
    let parts : (is_pending r ≡ true) × (eqb r.id id ≡ true) = and_parts (is_pending r) (eqb r.id id) there.1 in
    (ap (record_of m) (sym (eqb-true r.id id parts.1)) ∙ found m r sound.records.in_order there.0, not-true r.done parts.0)

none_pending : (m : State) (id : ℕ) → IsSound m → ((r : Record) → record_of m id ≡ Some r → r.done ≡ true) → pending_of m.records id ≡ None
none_pending m id sound done = by_pending (pending_of m.records id) refl
  where
    by_pending : (o : Option Record) → pending_of m.records id ≡ o → pending_of m.records id ≡ None
    by_pending None e = e
    by_pending (Some r) e = let its = its_record m id r sound e in absurd (both_ways r.done its.1 (done r its.0))

pub shown_state : (m : State) (id : ℕ) → (step m (Show id)).0 ≡ m
shown_state m id = ap (λ (s : Stepped). s.0) (step-show m id (record_of m id) refl)

-- it shows the pending record, if there is one
pub shown_is : (m : State) (id : ℕ) → IsSound m → shown_pending (step m (Show id)).1 ≡ pending_metadata m id
unfolding shown_pending
shown_is m id sound = by_record (record_of m id) refl
  where
    answered : (o : Option Record) → record_of m id ≡ o → shown_pending (step m (Show id)).1 ≡ shown_pending (show o)
    answered o e = ap (λ (s : Stepped). shown_pending s.1) (step-show m id o e)

    by_record : (o : Option Record) → record_of m id ≡ o → shown_pending (step m (Show id)).1 ≡ pending_metadata m id
    by_record None e =
        answered None e ∙ sym (ap (option_map metadata_of) (none_pending m id sound (λ r f. let no : ◌≡◌ {A = Option Record} None (Some r) = sym e ∙ f in absurd cc)))
    by_record (Some r) e =
        ⊎_elim
        (λ (d : r.done ≡ true).
        let none : pending_of m.records id ≡ None = none_pending m id sound (λ s f.
        let same : ◌≡◌ {A = Option Record} (Some r) (Some s) = sym e ∙ f in let it : r ≡ s = cc in ap (λ (x : Record). x.done) (sym it) ∙ d) in
        answered (Some r) e ∙ ap (λ (b : Bool). cond b None (Some (metadata_of r))) d ∙ sym (ap (option_map metadata_of) none))
        (λ (d : r.done ≡ false).
        answered (Some r) e ∙ ap (λ (b : Bool). cond b None (Some (metadata_of r))) d ∙ sym (ap (option_map metadata_of) (pending_record m id r e d)))
        (cases_Bool r.done)

-- An accepted restore answers what a restart takes then.
use Rattle.ckpt_model.proofs.Names.{common_steps, ◌≡◌, ℕ, true, false, not, List, [], ◌∷◌, map, refl, ap, max, arith, Option, Some, None, filter, both_ways, cases_Bool}
use Rattle.ckpt_model.proofs.Names.{Restore, Done, Record, State, is_pending, last_checkpoint, choice_from, choice_of, drop, Stepped, restarted, restore, rolled_back, effect}
use Rattle.ckpt_model.proofs.Names.{is_accepted, length, released_by, Restores}
use Rattle.ckpt_ids.specs.declared.call.Target.TheVariants as target
use Rattle.ckpt_ids.specs.declared.reply.Choice.{Choice}
use Rattle.ckpt_ids.specs.declared.reply.Choice.TheVariants as choice
use Rattle.ckpt_ids.specs.declared.reply.Reply.TheVariants as reply
use Rattle.ckpt_model.proofs.Answering.StepCases.{step_by}
use Rattle.ckpt_model.proofs.Records.Pins.{last_stays}

-- it answers this choice and leaves it
abbrev Gives : Choice → Stepped → Type 0
Gives c x = (choice_of x.0 ≡ c) × ((released : ℕ) × (x.1 ≡ Done (reply.Restored c released)))

-- to the latest checkpoint, which leaves each done record
latest_restored : (m : State) (shape : Option (List ℕ)) → Gives (choice_of m) (restore m target.Latest shape)
unfolding restore restarted drop choice_of
latest_restored m shape =
    let same = ap (λ (o : Option ℕ). choice_from o m.base) (last_stays (λ r. not (is_pending r)) m.records (λ r h done. grind (arith, common_steps))) in
    let out : ℕ = length (released_by m (rolled_back target.Latest) None) in
    (same, (out, ap (λ (c : Choice). Done (reply.Restored c out)) same))

-- to a savepoint, which leaves no done checkpoint
none_left : (id : ℕ) (rs : List Record) → last_checkpoint (map (λ r. r) (filter (λ r. not (rolled_back (target.Savepoint id) r)) rs)) ≡ None
none_left id [] = refl
none_left id (r ∷ rs) = grind (arith, common_steps, none_left id rs, both_ways, cases_Bool)

savepoint_restored : (m : State) (id : ℕ) (shape : Option (List ℕ)) → Gives (choice.Savepoint id) (restore m (target.Savepoint id) shape)
unfolding restore restarted drop choice_of
savepoint_restored m id shape =
    let same = ap (λ (o : Option ℕ). choice_from o (Some id)) (none_left id m.records) in
    let out : ℕ = length (released_by m (rolled_back (target.Savepoint id)) None) in
    (same, (out, ap (λ (c : Choice). Done (reply.Restored c out)) same))

-- the moment is not read
choice_at : (m : State) (latest : ℕ) → choice_of (record m { latest = latest }) ≡ choice_of m
unfolding choice_of
choice_at m latest = refl

-- the law
pub restores : (m : State) (now : ℕ) (shape : Option (List ℕ)) → Restores m now shape
unfolding effect
restores m now shape = record {
  latest = step_by m (Restore now target.Latest shape) (λ (x : Stepped). is_accepted x.1 ≡ true → Gives (choice_of m) x) (λ why _ e. absurd (both_ways false refl e))
      (λ _ _. rw (← choice_at m (max now m.latest)) (latest_restored (record m { latest = max now m.latest }) shape));
  savepoint = λ id. step_by m (Restore now (target.Savepoint id) shape) (λ (x : Stepped). is_accepted x.1 ≡ true → Gives (choice.Savepoint id) x) (λ why _ e. absurd (both_ways false refl e))
      (λ _ _. savepoint_restored (record m { latest = max now m.latest }) id shape);
}

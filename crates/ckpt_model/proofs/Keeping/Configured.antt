-- The configuration after a list of calls, and what an accepted Configure leaves.
use Rattle.ckpt_model.proofs.Names.{common_steps, arith, ◌≡◌, ℕ, ◌≤◌, max, Bool, true, false, not, ◌&&◌, leb, cond, List, [], ◌∷◌, map, inl, inr, refl, ap, sym, ◌∙◌, both_ways, cases_Bool}
use Rattle.ckpt_model.proofs.Names.{ltb-true, count_by, count_by-none, filter, None, Option, IsIn, IsInOrder, ComesBefore-at, IsWithinLimits, Configuration, Call, Configure, Record, State, Opening, opened, id_before}
use Rattle.ckpt_model.proofs.Names.{is_done_checkpoint, is_surplus, last_checkpoint, choice_from, choice_of, drop, Stepped, with_config, configure, effect, step, replay, IsSound, is_accepted}
use Rattle.ckpt_model.specs.Settings.{config_after, last_config, OpeningIs, Configures, ConfiguresNow}
use Rattle.ckpt_model.proofs.Records.{IsIn-changed, later, later_rest}
use Rattle.ckpt_model.proofs.Keeping.Latest.{last_is_none}
use Rattle.ckpt_model.proofs.Soundness.{past}
use Rattle.ckpt_model.proofs.Answering.StepCases.{step_by}
use Rattle.ckpt_model.proofs.Stepping.Walk.{step_is}

-- the opening after each call
step_opening : (m : State) (call : Call) → (step m call).0.opening ≡ record m.opening { config = config_after m.opening.config m call }
unfolding effect configure with_config drop
step_opening m (Configure now c) =
    step_by m (Configure now c) (λ (x : Stepped). x.0.opening ≡ record m.opening { config = cond (is_accepted x.1) c m.opening.config }) (λ _ _. refl) (λ _. refl)
step_opening m call = let i = step_is m call in grind (arith, common_steps, i.opening, i.config)

-- after a list of calls
replay_opening : (m : State) (calls : List Call) → (replay m calls).opening ≡ record m.opening { config = last_config m.opening.config m calls }
replay_opening m [] = refl
replay_opening m (call ∷ calls) =
    let n : State = (step m call).0 in
    let e : n.opening ≡ record m.opening { config = config_after m.opening.config m call } = step_opening m call in
    let with_it : Opening → Opening = λ (o : Opening). record o { config = last_config o.config n calls } in
    replay_opening n calls ∙ ap with_it e

-- the law
pub opening_is : (o : Opening) (calls : List Call) → OpeningIs o calls
opening_is o calls = replay_opening (opened o) calls

-- what it leaves

-- the last done checkpoint stays if each that no other comes after is kept
last_is_kept : (q : Record → Bool) (rs : List Record) → IsInOrder id_before rs
    → ((r : Record) → IsIn r rs → is_done_checkpoint r ≡ true → later is_done_checkpoint r rs ≡ 0 → q r ≡ true)
    → last_checkpoint (map (λ r. r) (filter q rs)) ≡ last_checkpoint rs
last_is_kept q [] a keeps = refl
last_is_kept q (x ∷ rs) a keeps =
    let rest : last_checkpoint (map (λ r. r) (filter q rs)) ≡ last_checkpoint rs =
    last_is_kept q rs a.1 (λ r h d none. let less = ltb-true x.id r.id (ComesBefore-at id_before x r rs a.0 h) in keeps r (inr h) d (later_rest is_done_checkpoint x r rs (omega arith) ∙ none)) in
    let none_later : last_checkpoint rs ≡ None → later is_done_checkpoint x rs ≡ 0 = λ e. count_by-none _ rs (λ s h. grind (arith, common_steps, last_is_none rs s e h)) in
    let first : last_checkpoint rs ≡ None → is_done_checkpoint x ≡ true → q x ≡ true = λ e d. keeps x (inl refl) d (later_rest is_done_checkpoint x x rs (omega arith) ∙ none_later e) in
    grind (arith, common_steps, rest, first, cases_Bool, both_ways)

-- one that no other comes after is not past what is retained
newest_is_left : (n : ℕ) (rs : List Record) (r : Record) → 1 ≤ n → later is_done_checkpoint r rs ≡ 0 → not (past n rs r) ≡ true
newest_is_left n rs r some none = grind (arith, common_steps, both_ways, cases_Bool)

-- the state after
configures : (m : State) (now : ℕ) (c : Configuration) → IsWithinLimits c → IsInOrder id_before m.records → Configures m now c (configure m c).0
unfolding configure with_config drop choice_of
configures m now c within order = record {
  settings = refl;
  choice = ap (λ (o : Option ℕ). choice_from o m.base) (last_is_kept (λ r. not (past c.retained m.records r)) m.records order (λ r h d none. newest_is_left c.retained m.records r within.retained_from none));
  others = λ r h e. IsIn-changed (λ (x : Record). x) (λ x. not (past c.retained m.records x)) r m.records h (grind (arith, common_steps, both_ways));
  sooner = grind (arith, common_steps);
  within = grind (arith, common_steps);
}

-- the moment is not read
configures_at : (m : State) (now latest : ℕ) (c : Configuration) (n : State) → Configures (record m { latest = latest }) now c n → Configures m now c n
unfolding choice_of
configures_at m now latest c n k = record { settings = k.settings; choice = k.choice; others = k.others; sooner = k.sooner; within = k.within }

-- the law
pub configures_now : (m : State) (now : ℕ) (c : Configuration) → IsSound m → IsWithinLimits c → ConfiguresNow m now c
unfolding effect
configures_now m now c s within =
    step_by m (Configure now c) (λ (x : Stepped). is_accepted x.1 ≡ true → Configures m now c x.0) (λ why _ e. absurd (both_ways false refl e))
    (λ _ _. configures_at m now (max now m.latest) c (configure (record m { latest = max now m.latest }) c).0 (configures (record m { latest = max now m.latest }) now c within s.records.in_order))

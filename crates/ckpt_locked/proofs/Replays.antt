-- One call more, in the list and in the state.
use Rattle.ckpt_locked.proofs.Names.{Answer, Call, Entry, History, IsCall, IsKept, List, Opening, [], ap, calls_of, counted, entered, history_of, map-append, opened, refl, subst, sym, ℕ, ◌++◌, ◌∙◌}
use Rattle.ckpt_locked.proofs.Names.{◌∷◌, ◌≡◌}
use Rattle.ckpt_ids.specs.Configuration.{Configuration}
use Rattle.ckpt_ids.specs.declared.call.Call.TheVariants.{Count}
use Rattle.ckpt_locked.specs.Books.{answer_to, state_of_book}
use Rattle.ckpt_model.proofs.Histories.Replays.{calls-join, replay-append}
use Rattle.ckpt_model.proofs.Stepping.Walk.{step_is}
use Rattle.ckpt_model.specs.Refusals.{refusal}
use Rattle.ckpt_model.specs.State.{State}
use Rattle.ckpt_model.specs.Steps.{effect, step}

-- a call may change the configuration of the opening, and nothing else of it
same_opening : (first : Configuration) (core : State) (call : Call) → record (step core call).0.opening { config = first } ≡ record core.opening { config = first }
same_opening first core call = ap (λ (o : Opening). record o { config = first }) (step_is core call).opening

-- the coordinator after a call, and the list with it, are a book
kept_step : (first : Configuration) (core : State) (entries : List Entry) (entry : Entry) (keep : ℕ) → IsKept first core entries keep → IsCall entry.call →
    IsKept first (step core entry.call).0 (entries ++ entry ∷ []) keep
unfolding state_of_book
kept_step first core entries entry keep kept call =
    let same : record (step core entry.call).0.opening { config = first } ≡ record core.opening { config = first } = same_opening first core entry.call in
    let calls : calls_of (entries ++ entry ∷ []) ≡ calls_of entries ++ entry.call ∷ [] = map-append (λ e. e.call) entries (entry ∷ []) in
    record {
      history = record { can_open = rw same kept.history.can_open; are_calls = rw calls (calls-join (calls_of entries) (entry.call ∷ []) kept.history.are_calls (call, tt)) };
      is_replay = ap (λ m. (step m entry.call).0) kept.is_replay ∙ rw (same, calls) (sym (replay-append (opened (record core.opening { config = first })) (calls_of entries) (entry.call ∷ [])));
    }

-- a call was made, and its entry is the last
module _ (first : Configuration) (core after : State) (entries made more : List Entry) (keep most seat : ℕ) (call : Call) (answer : Answer) (h : History) (of : history_of first core entries keep ≡ h)
    (is : step core call ≡ (after, answer)) (same : made ≡ entries) (pushed : more ≡ made ++ record { seat = seat; call = call } ∷ []) (stays : most ≡ keep) where
  pub kept_entered : IsKept first core entries keep → IsCall call → IsKept first after more most
  kept_entered k c =
      let last : Entry = record { seat = seat; call = call } in
      rw (pushed, same, stays) (subst (λ (m : State). IsKept first m (entries ++ last ∷ []) keep) (ap (λ s. s.0) is) (kept_step first core entries last keep k c))

  -- the model of the two is one entry longer
  pub history_entered : history_of first after more most ≡ entered h seat call
  history_entered = let opening : record after.opening { config = first } ≡ record core.opening { config = first } =
      sym (ap (λ s. (let o : Opening = record s.0.opening { config = first } in o)) is) ∙ same_opening first core call in rw (opening, pushed, same, stays, ← of)

  -- the answer is the answer to the list
  pub answer_is : IsKept first core entries keep → answer ≡ answer_to h call
  unfolding answer_to
  answer_is k = rw (← of) (sym (ap (λ s. s.1) is) ∙ ap (λ m. (step m call).1) k.is_replay)

-- the number of entries in memory does not matter for it
pub kept_keeping : (first : Configuration) (core : State) (entries : List Entry) (keep most : ℕ) → IsKept first core entries keep → IsKept first core entries most
unfolding state_of_book
kept_keeping first core entries keep most kept = record { history = record { can_open = kept.history.can_open; are_calls = kept.history.are_calls }; is_replay = kept.is_replay }

-- the answer to a Count
pub count_answer : (h : History) (file : ℕ) → answer_to h (Count file) ≡ counted h file
unfolding answer_to step refusal effect
count_answer h file = refl

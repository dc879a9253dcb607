-- Laws of the calls that an operator makes: a checkpoint now, and a new configuration.
use Rattle.std.specs.Prelude.{◌≡◌, ℕ, ◌+◌, ◌≤◌, max, Bool, true, false, not, List, [], ◌∷◌, if◌then◌else◌}
use Rattle.std.specs.List.{list_any}
use Rattle.ckpt_ids.specs.Configuration.{Configuration}
use Rattle.ckpt_ids.specs.Ordered.{IsIn}
use Rattle.ckpt_ids.specs.Records.{Record}
use Rattle.ckpt_ids.specs.declared.call.Call.{Call}
use Rattle.ckpt_ids.specs.declared.call.Call.TheVariants.{Tick, Trigger, Configure}
use Rattle.ckpt_rules.specs.Trigger.{gap}
use Rattle.ckpt_model.specs.State.{State, Opening, opened, choice_of, is_done_checkpoint, is_expired}
use Rattle.ckpt_model.specs.Steps.{Stepped, step}
use Rattle.ckpt_model.specs.Histories.{replay}
use Rattle.ckpt_model.specs.Keeping.{is_accepted}
use Rattle.ckpt_model.specs.Reads.{triggered_one}

-- the configuration after a call: that of an accepted Configure, otherwise the one before
abbrev pub config_after : Configuration → State → Call → Configuration
config_after c m (Configure now config) = if is_accepted (step m (Configure now config)).1 then config else c
config_after c m call = c

-- and after a list of calls: that of the last accepted Configure, if there is one
abbrev pub last_config : Configuration → State → List Call → Configuration
last_config c m [] = c
last_config c m (call ∷ calls) = last_config (config_after c m call) (step m call).0 calls

-- the shape, the start and the first number that a coordinator was opened with stay, and its configuration is the last given
abbrev pub OpeningIs : Opening → List Call → Type 0
OpeningIs o calls = (replay (opened o) calls).opening ≡ record o { config = last_config o.config (opened o) calls }

-- what an accepted Configure leaves
pub record Configures (m : State) (now : ℕ) (config : Configuration) (n : State) : Type 0 where
  pub settings : n.opening.config ≡ config
  -- what a restart takes
  pub choice : choice_of n ≡ choice_of m
  -- each record that is no done checkpoint: the pending ones, and the savepoints
  pub others : (r : Record) → IsIn r m.records → is_done_checkpoint r ≡ false → IsIn r n.records
  -- no later checkpoint than before, and none later than one new interval from now
  pub sooner : n.due ≤ m.due
  pub within : n.due ≤ n.latest + gap config

abbrev pub ConfiguresNow : State → ℕ → Configuration → Type 0
ConfiguresNow m now config = let x : Stepped = step m (Configure now config) in is_accepted x.1 ≡ true → Configures m now config x.0

-- A Trigger does what a tick does that triggers, and answers the same, if nothing expires in that.
abbrev pub IsAsTick : State → ℕ → Type 0
IsAsTick m now =
    list_any (is_expired m (max now m.latest)) m.records ≡ false
    → triggered_one (step m (Tick now)).1 ≡ true
    → step m (Trigger now) ≡ step m (Tick now)

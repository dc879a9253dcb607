-- A durable coordinator with names, as `Durable` is, is one that commits in groups. So what is said of groups holds of it.
use Rattle.std.specs.Prelude.{◌≡◌, List, [], ◌∷◌, map, ⊤}
use Rattle.ckpt_terms.specs.{declared.call.FencedAnswer.FencedAnswer, declared.call.FencedCall.FencedCall, Fencing.Fenced, Fencing.fenced_step}
use Rattle.ckpt_terms.specs.declared.machine.Machine.TheVariants as machine
use Rattle.ckpt_logged.specs.Events.{Named}
use Rattle.ckpt_durable.specs.Crashes.{AreEvents, Committed, Crashed, Event, Made, World, world}
use Rattle.ckpt_durable.specs.Groups as group

abbrev pub turn_of : Event → group.Turn
turn_of (Made call) = group.Made (Named call)
turn_of Committed = group.Committed
turn_of (Crashed n) = group.Crashed n

-- each receipt is of such a call, and this is its answer there
abbrev pub AreOf : List group.Receipt → List (FencedCall × FencedAnswer) → Type 0
AreOf [] [] = ⊤
AreOf [] (one ∷ ones) = ⊥
AreOf (r ∷ rs) [] = ⊥
AreOf (r ∷ rs) (one ∷ ones) =
    (f : Fenced)
    × (r ≡ record { state = machine.Fenced f; entry = Named one.0 ∷ [] })
    × ((fenced_step f one.0).1 ≡ one.1)
    × AreOf rs ones

-- the same coordinator and device; the same was told, and the same was asked
pub record IsGroup (w : World) (g : group.World) : Type 0 where
  pub now : g.life.now ≡ machine.Fenced w.life.now
  pub synced : group.synced g ≡ map Named w.life.kept
  pub loose : g.life.loose ≡ map Named w.life.loose
  pub told : AreOf g.told w.told
  pub made : g.made ≡ map Named w.made

abbrev pub DurableIsGroup : Fenced → List Event → Type 0
DurableIsGroup m events = IsGroup (world m events) (group.world (machine.Fenced m) (map turn_of events)) × (AreEvents events → group.AreTurns (map turn_of events))

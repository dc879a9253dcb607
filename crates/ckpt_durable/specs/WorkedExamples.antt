-- Worked examples: what callers were told and what is synced after lists of events, computed by the definitions. The expected values were
-- written by hand, from the rules.
use Rattle.std.specs.Prelude.{◌≡◌, ℕ, List, [], ◌∷◌, map, refl, false, None}
use Rattle.ckpt_ids.specs.{Configuration.Configuration, declared.call.Call.TheVariants.Restore, declared.reply.Answer.TheVariants.Done}
use Rattle.ckpt_ids.specs.declared.call.Target.TheVariants as target
use Rattle.ckpt_ids.specs.declared.reply.Choice.TheVariants as choice
use Rattle.ckpt_ids.specs.declared.reply.Reply.TheVariants as reply
use Rattle.ckpt_model.specs.{Steps.step_computes, State.opened}
use Rattle.ckpt_terms.specs.{declared.call.FencedCall.FencedCall, declared.call.FencedCall.TheVariants.Reserve, declared.call.FencedCall.TheVariants.Make}
use Rattle.ckpt_terms.specs.{declared.call.FencedAnswer.FencedAnswer, declared.call.FencedRefusal.TheVariants.OldTerm, declared.machine.Machine.Machine}
use Rattle.ckpt_terms.specs.declared.call.FencedAnswer.TheVariants as answer
use Rattle.ckpt_terms.specs.Fencing.{Fenced, fenced, fenced_step}
use Rattle.ckpt_terms.specs.declared.machine.Machine.TheVariants as machine
use Rattle.ckpt_logged.specs.Events.{Fence, Named}
use Rattle.ckpt_durable.specs.Groups as group
use Rattle.ckpt_durable.specs.Groups.{synced, world as group_world}
use Rattle.ckpt_durable.specs.Crashes.{Event, Made, Committed, Crashed, world}
use Rattle.ckpt_durable.specs.Operations.{Operation, Makes, Commits, FailsToMake, Ends, returned, asked}

-- a checkpoint each second, one at a time, none of which may fail, and one of which is kept
abbrev usual : Configuration
usual = record { interval = 1000; pause = 0; at_once = 1; timeout = 600000; tolerable = 0; retained = 1; keep_on_cancel = false }

-- a job of one subtask, whose names begin at 5
abbrev job : Fenced
job = fenced (record { config = usual; shape = 1 ∷ []; start = 0; first = 1 }) 5

abbrev told : List Event → List (FencedCall × FencedAnswer)
told events = (world job events).told

abbrev kept_after : List Event → List FencedCall
kept_after events = (world job events).life.kept

abbrev next_name : List Event → ℕ
next_name events = (world job events).life.now.next_name

abbrev three : FencedCall
three = Reserve 1 3

abbrev two : FencedCall
two = Reserve 1 2

-- Names 8 and 9 were reserved, and nobody was told. The crash cuts that call, and the names are given again.
abbrev cut : List Event
cut = Made three ∷ Committed ∷ Made two ∷ Crashed 0 ∷ Made two ∷ Committed ∷ []

pub cut_told : told cut ≡ (three, answer.Reserved 5) ∷ (two, answer.Reserved 8) ∷ []
unfolding fenced_step
cut_told = refl

pub cut_kept : kept_after cut ≡ three ∷ two ∷ []
cut_kept = refl

pub cut_next : next_name cut ≡ 10
unfolding fenced_step
cut_next = refl

-- The crash leaves that call. It stays between those that were told, and its names are nobody's.
abbrev found : List Event
found = Made three ∷ Committed ∷ Made two ∷ Crashed 1 ∷ Made two ∷ Committed ∷ []

pub found_told : told found ≡ (three, answer.Reserved 5) ∷ (two, answer.Reserved 10) ∷ []
unfolding fenced_step
found_told = refl

pub found_kept : kept_after found ≡ three ∷ two ∷ two ∷ []
found_kept = refl

pub found_next : next_name found ≡ 12
unfolding fenced_step
found_next = refl

-- What was told survives two crashes. The second one may leave more than there is.
abbrev survives : List Event
survives = Made three ∷ Committed ∷ Crashed 0 ∷ Crashed 7 ∷ []

pub survives_told : told survives ≡ (three, answer.Reserved 5) ∷ []
unfolding fenced_step
survives_told = refl

pub survives_next : next_name survives ≡ 8
unfolding fenced_step
survives_next = refl

-- An answer that waits at a crash is never told, also if its call is found and synced later.
abbrev untold : List Event
untold = Made three ∷ Crashed 1 ∷ Committed ∷ []

pub untold_told : told untold ≡ []
untold_told = refl

pub untold_kept : kept_after untold ≡ three ∷ []
untold_kept = refl

-- A restore that was told ends the term of the tasks that ran before, through a crash too.
abbrev restores : FencedCall
restores = Make 1 (Restore 0 target.Latest None)

abbrev fences : List Event
fences = Made restores ∷ Committed ∷ Crashed 0 ∷ Made three ∷ Committed ∷ []

pub fences_told : told fences ≡ (restores, answer.Made 2 (Done (reply.Restored choice.Fresh 0))) ∷ (three, answer.Fenced OldTerm) ∷ []
unfolding fenced_step step_computes
fences_told = refl

-- The program that does this: the second `make` fails, and the journal is found without its call.
abbrev fails : List Operation
fails = Makes three ∷ Commits ((three, answer.Reserved 5) ∷ []) ∷ FailsToMake two 0 ∷ Makes two ∷ Commits ((two, answer.Reserved 8) ∷ []) ∷ Ends 0 ∷ []

pub fails_returned : returned fails ≡ (three, answer.Reserved 5) ∷ (two, answer.Reserved 8) ∷ []
fails_returned = refl

pub fails_asked : asked fails ≡ three ∷ two ∷ two ∷ []
fails_asked = refl

-- The same in groups, of a coordinator that gets its names on the way.

abbrev plain_job : Machine
plain_job = machine.Plain (opened (record { config = usual; shape = 1 ∷ []; start = 0; first = 1 }))

-- Names from 5 on are told, and three of them are reserved. An image stands for the first of these two entries, and the crash cuts a third.
abbrev imaged : List group.Turn
imaged =
    group.Made (Fence 5) ∷ group.Made (Named three) ∷ group.Committed ∷ group.Imaged 1 ∷ group.Made (Named two) ∷ group.Looked ∷ group.Crashed 0 ∷ group.Looked
    ∷ group.Committed ∷ []

pub imaged_synced : synced (group_world plain_job imaged) ≡ Fence 5 ∷ Named three ∷ []
imaged_synced = refl

pub imaged_kept : (group_world plain_job imaged).life.kept ≡ Named three ∷ []
imaged_kept = refl

-- The reservation that was lost was told to nobody, nor was what was read behind it. What was read after the crash was told.
pub imaged_told : map (λ r. r.entry) (group_world plain_job imaged).told ≡ (Fence 5 ∷ []) ∷ (Named three ∷ []) ∷ [] ∷ []
imaged_told = refl

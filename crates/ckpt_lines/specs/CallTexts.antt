-- How calls are written as lines of a script, and the lines that open a job.
use Rattle.std.specs.Prelude.{ℕ, ⊤, ◌≤◌, ◌<◌, ◌^◌, All, Bool, true, false, List, [], ◌++◌, flat_map, codes, decimal, length, Option, Some, None, Ok, Err, ◌≡◌}
use Rattle.ckpt_ids.specs.declared.subtask.SubtaskId.{SubtaskId}
use Rattle.ckpt_ids.specs.declared.call.Target.{Target}
use Rattle.ckpt_ids.specs.declared.call.Target.TheVariants as target
use Rattle.ckpt_ids.specs.declared.call.Call.{Call}
use Rattle.ckpt_ids.specs.declared.call.Call.TheVariants as call
use Rattle.ckpt_ids.specs.Ascending.{IsAscending}
use Rattle.ckpt_ids.specs.Configuration.{Configuration, IsWithinLimits}
use Rattle.ckpt_ids.specs.Shapes.{IsShape}
use Rattle.ckpt_lines.specs.declared.limits.TheConstants.{LONGEST_LINE}
use Rattle.ckpt_lines.specs.declared.fault.LineFault.TheVariants as fault
use Rattle.ckpt_lines.specs.declared.line.Line.{Line}
use Rattle.ckpt_lines.specs.declared.line.Line.TheVariants as line
use Rattle.ckpt_lines.specs.Reading.{reading}
use Rattle.ckpt_answers.specs.Texts.{spaced}
use Rattle.ckpt_answers.specs.MetadataTexts.{subtask_bytes}

abbrev pub subtask_text : SubtaskId → List ℕ
subtask_text s = codes " " ++ subtask_bytes s

abbrev pub target_text : Target → List ℕ
target_text target.Latest = codes " latest"
target_text (target.Savepoint id) = spaced id

abbrev pub fresh_text : ℕ → List ℕ
fresh_text file = codes " +" ++ decimal file

abbrev pub reused_text : ℕ → List ℕ
reused_text file = codes " =" ++ decimal file

-- the new files, and then the reused ones
abbrev pub files_text : List ℕ → List ℕ → List ℕ
files_text fresh reused = flat_map fresh_text fresh ++ flat_map reused_text reused

-- the parallelisms, or none if the shape stays
abbrev pub parallelisms : Option (List ℕ) → List ℕ
parallelisms None = []
parallelisms (Some shape) = shape

abbrev pub retention_text : Bool → List ℕ
retention_text true = codes " keep"
retention_text false = codes " delete"

-- when checkpoints are triggered
unfoldable pub triggers_text : Configuration → List ℕ
triggers_text c = spaced c.interval ++ spaced c.pause ++ spaced c.at_once

-- when they expire, and which are kept
unfoldable pub limits_text : Configuration → List ℕ
limits_text c = spaced c.timeout ++ spaced c.tolerable ++ spaced c.retained ++ retention_text c.keep_on_cancel

unfoldable pub settings_text : Configuration → List ℕ
settings_text c = triggers_text c ++ limits_text c

-- the line of a call, without its newline
unfoldable pub call_text : Call → List ℕ
call_text (call.Tick now) = codes "tick" ++ spaced now
call_text (call.Savepoint now) = codes "savepoint" ++ spaced now
call_text (call.Ack now id s fresh reused) = codes "ack" ++ spaced now ++ spaced id ++ subtask_text s ++ files_text fresh reused
call_text (call.Decline now id s) = codes "decline" ++ spaced now ++ spaced id ++ subtask_text s
call_text (call.Dispose id) = codes "dispose" ++ spaced id
call_text (call.Restore now t shape) = codes "restore" ++ spaced now ++ target_text t ++ flat_map spaced (parallelisms shape)
call_text (call.Cancel now) = codes "cancel" ++ spaced now
call_text (call.Take most) = codes "take" ++ spaced most
call_text (call.Deleted file) = codes "deleted" ++ spaced file
call_text (call.Undeleted file) = codes "undeleted" ++ spaced file
call_text (call.Show id) = codes "show" ++ spaced id
call_text (call.Count file) = codes "count" ++ spaced file
call_text (call.Trigger now) = codes "trigger" ++ spaced now
call_text (call.Configure now config) = codes "configure" ++ spaced now ++ settings_text config

unfoldable pub config_text : Configuration → List ℕ
config_text c = codes "config" ++ settings_text c

abbrev pub line_of_config : Configuration → Line
line_of_config c = line.Config c.interval c.pause c.at_once c.timeout c.tolerable c.retained c.keep_on_cancel

unfoldable pub job_text : List ℕ → List ℕ
job_text shape = codes "job" ++ flat_map spaced shape

unfoldable pub start_text : ℕ → List ℕ
start_text now = codes "start" ++ spaced now

-- what the types of the places allow: numbers of 64 bits, halves of a subtask of 16 bits, shapes
abbrev pub Fits : ℕ → Type 0
Fits n = n < 2 ^ 64

abbrev pub FitsSubtask : SubtaskId → Type 0
FitsSubtask s = (s.vertex < 2 ^ 16) × (s.index < 2 ^ 16)

abbrev pub FitsTarget : Target → Type 0
FitsTarget target.Latest = ⊤
FitsTarget (target.Savepoint id) = Fits id

abbrev pub FitsFiles : List ℕ → Type 0
FitsFiles files = All Fits files × IsAscending files

abbrev pub FitsShape : Option (List ℕ) → Type 0
FitsShape None = ⊤
FitsShape (Some shape) = IsShape shape × All Fits shape

abbrev pub FitsCall : Call → Type 0
FitsCall (call.Tick now) = Fits now
FitsCall (call.Savepoint now) = Fits now
FitsCall (call.Ack now id s fresh reused) = Fits now × Fits id × FitsSubtask s × FitsFiles fresh × FitsFiles reused
FitsCall (call.Decline now id s) = Fits now × Fits id × FitsSubtask s
FitsCall (call.Dispose id) = Fits id
FitsCall (call.Restore now t shape) = Fits now × FitsTarget t × FitsShape shape
FitsCall (call.Cancel now) = Fits now
FitsCall (call.Take most) = Fits most
FitsCall (call.Deleted file) = Fits file
FitsCall (call.Undeleted file) = Fits file
FitsCall (call.Show id) = Fits id
FitsCall (call.Count file) = Fits file
FitsCall (call.Trigger now) = Fits now
FitsCall (call.Configure now config) = Fits now × IsWithinLimits config

-- a text within the limit of lines is read as this line
abbrev pub IsReadAs : Line → List ℕ → Type 0
IsReadAs read text = length text ≤ LONGEST_LINE → reading text ≡ Ok read

-- A script with this line makes this call. Scripts have no line for two of the calls: their first word is unknown there.
abbrev pub IsScriptLine : Call → List ℕ → Type 0
IsScriptLine (call.Trigger now) text = length text ≤ LONGEST_LINE → reading text ≡ Err fault.Word
IsScriptLine (call.Configure now config) text = length text ≤ LONGEST_LINE → reading text ≡ Err fault.Word
IsScriptLine made text = IsReadAs (line.Call made) text

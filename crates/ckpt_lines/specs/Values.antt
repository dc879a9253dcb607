-- What single words say.
use Rattle.std.specs.Prelude.{ℕ, ◌+◌, ◌-◌, ◌*◌, ◌^◌, Bool, true, false, ◌&&◌, ◌==◌, nat_lt, List, [], ◌∷◌, length, if◌then◌else◌, codes, Option, Some, None, option_and_then, Result, Ok, Err}
use Rattle.std.specs.List.{before_first, after_first}
use Rattle.std.specs.Option.{option_map, ok_or}
use Rattle.std.specs.Char.{is_ascii_digit}
use Rattle.std.specs.Str.{all_ascii_digits, bytes_eq}
use Rattle.std.specs.Str.Parse.{digits_value}
use Rattle.ckpt_ids.specs.declared.subtask.SubtaskId.{SubtaskId}
use Rattle.ckpt_ids.specs.declared.call.Target.{Target}
use Rattle.ckpt_ids.specs.declared.call.Target.TheVariants as target
use Rattle.ckpt_lines.specs.Bytes.{dot, equals, plus, zero}
use Rattle.ckpt_lines.specs.declared.fault.LineFault.{LineFault}
use Rattle.ckpt_lines.specs.declared.fault.LineFault.TheVariants as fault
use Rattle.ckpt_lines.specs.declared.values.FileWord.{FileWord}
use Rattle.ckpt_lines.specs.declared.values.FileWord.TheVariants.{Fresh, Reused}

-- one or more digits with a value of at most 2^64 - 1; leading zeros are allowed
abbrev pub is_number : List ℕ → Bool
is_number word = nat_lt 0 (length word) && all_ascii_digits word && nat_lt (digits_value 10 word) (2 ^ 64)

unfoldable pub number_of : List ℕ → Option ℕ
number_of word = if is_number word then Some (digits_value 10 word) else None

-- the number with one more digit, if the byte is a digit and the number is at most 2^64 - 1
abbrev pub with_digit : ℕ → ℕ → Option ℕ
with_digit number byte = if is_ascii_digit byte && nat_lt (number * 10 + (byte - zero)) (2 ^ 64) then Some (number * 10 + (byte - zero)) else None

abbrev pub small : ℕ → Option ℕ
small n = if nat_lt n (2 ^ 16) then Some n else None

-- a number of at most 65535
unfoldable pub part_of : List ℕ → Option ℕ
part_of word = option_and_then small (number_of word)

abbrev pub is_dot : ℕ → Bool
is_dot byte = byte == dot

-- the subtask of this vertex and this index, if both are there
abbrev pub joined : Option ℕ → Option ℕ → Option SubtaskId
joined vertex index = option_and_then (λ v. option_map (λ i. record { vertex = v; index = i }) index) vertex

-- two such numbers with a dot between them
unfoldable pub subtask_of : List ℕ → Option SubtaskId
subtask_of word = joined (part_of (before_first is_dot word)) (part_of (after_first is_dot word))

abbrev pub number : List ℕ → Result ℕ LineFault
number word = ok_or (number_of word) fault.Number

abbrev pub subtask : List ℕ → Result SubtaskId LineFault
subtask word = ok_or (subtask_of word) fault.Number

-- whether checkpoints are kept at a cancel
abbrev pub retention : List ℕ → Result Bool LineFault
retention word = if bytes_eq word (codes "keep") then Ok true else (if bytes_eq word (codes "delete") then Ok false else Err fault.Word)

abbrev pub savepoint : Option ℕ → Result Target LineFault
savepoint (Some id) = Ok (target.Savepoint id)
savepoint None = Err fault.Number

unfoldable pub target_of : List ℕ → Result Target LineFault
target_of word = if bytes_eq word (codes "latest") then Ok target.Latest else savepoint (number_of word)

abbrev pub signed : (ℕ → FileWord) → Option ℕ → Result FileWord LineFault
signed sign (Some file) = Ok (sign file)
signed sign None = Err fault.Number

-- whether the sign is that of a new file
abbrev pub is_fresh : ℕ → Result Bool LineFault
is_fresh sign = if sign == plus then Ok true else (if sign == equals then Ok false else Err fault.Word)

-- a plus or an equals sign, and a number
unfoldable pub file_word : List ℕ → Result FileWord LineFault
file_word [] = Err fault.Word
file_word (sign ∷ word) =
    if sign == plus then signed Fresh (number_of word) else (if sign == equals then signed Reused (number_of word) else Err fault.Word)

abbrev pub fresh_file : FileWord → Option ℕ
fresh_file (Fresh file) = Some file
fresh_file (Reused file) = None

abbrev pub reused_file : FileWord → Option ℕ
reused_file (Fresh file) = None
reused_file (Reused file) = Some file

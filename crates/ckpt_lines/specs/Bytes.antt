-- The bytes that have a meaning in a line.
use Rattle.std.specs.Prelude.{ℕ}

-- between words
abbrev pub space : ℕ
space = 32

-- a comment begins with it
abbrev pub hash : ℕ
hash = 35

-- before a new file
abbrev pub plus : ℕ
plus = 43

-- between the vertex and the index of a subtask
abbrev pub dot : ℕ
dot = 46

-- the digit 0
abbrev pub zero : ℕ
zero = 48

-- before a reused file
abbrev pub equals : ℕ
equals = 61

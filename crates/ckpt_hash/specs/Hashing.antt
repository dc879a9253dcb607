-- What a secret's hasher computes. No promise of a map depends on it.
use Rattle.std.specs.Prelude.{ℕ, ◌==◌, List, length, if◌then◌else◌, bit_or, bit_xor}
use Rattle.std.specs.List.{fold}
use Rattle.std.specs.Int.{from_le_bytes, w64}
use Rattle.std.specs.Hash.FoldHasher.{folded_multiply}
use Rattle.ckpt_hash.specs.declared.hasher.NumberHasher.{NumberHasher}
use Rattle.ckpt_hash.specs.declared.secret.Secret.{Secret}

-- the secret of two words; its multiplier is odd
abbrev pub secret_of : ℕ → ℕ → Secret
secret_of first second = record { seed = bit_xor first 0x243f_6a88_85a3_08d3; multiplier = bit_or (bit_xor second 0x9e37_79b9_7f4a_7c15) 1 }

-- the hasher before it takes in a number
abbrev pub begun : Secret → NumberHasher
begun secret = record { state = secret.seed; multiplier = secret.multiplier }

-- the hasher once it has taken in a number
abbrev pub mixed : NumberHasher → ℕ → NumberHasher
mixed hasher number = record { state = folded_multiply (bit_xor hasher.state number) hasher.multiplier; multiplier = hasher.multiplier }

-- the hasher once it was given these bytes: eight are one number, others are taken in one by one
abbrev pub written : NumberHasher → List ℕ → NumberHasher
written hasher bytes = if length bytes == 8 then mixed hasher (from_le_bytes w64 bytes) else fold mixed hasher bytes

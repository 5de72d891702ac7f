-- The call that writes, of what the functions below give.
use Prim.Native.Nat.{ℕ}
use mathlib.Core.Path.{◌≡◌, refl, ap, ◌∙◌}
use mathlib.Core.List.{List}
use Rattle.std.proofs.Common.{Result, Ok, Err}
use Rattle.std.specs.Result.{result_unwrap_or}
use Rattle.errors.specs.declared.Refusal.{Refusal}
use Rattle.memory.specs.Memory.{Memory}
use Rattle.memory.specs.declared.Converter.{Converter}
use Rattle.serialize.specs.File.{Wrote, wrote, len_of, serialize_of}
use Rattle.c_words.specs.Record.{converter_of, len_words}
use Rattle.c_words.specs.Writing.{left_file, serialize_call}

-- the length that writing answered, 0 where it was refused
pub len_read : (r : Result ℕ Refusal) → result_unwrap_or r 0 ≡ len_of r
len_read (Ok n) = refl
len_read (Err e) = refl

pub serialize_law : (r : List ℕ) (m : Memory) (out l : List ℕ) (n len : ℕ) (out₁ : List ℕ) {w : Converter} {l₁ : List ℕ}
    → w ≡ converter_of r → wrote n len out₁ ≡ serialize_of w m out → l₁ ≡ len_words n len l → left_file n out₁ l₁ ≡ serialize_call r m out l
unfolding serialize_call
serialize_law r m out l n len out₁ ew e el =
    rw el (ap (λ (x : Wrote). left_file x.code x.output (len_words x.code x.len l)) (e ∙ ap (λ (x : Converter). serialize_of x m out) ew))

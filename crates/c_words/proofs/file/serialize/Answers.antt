-- `serialize` meets its contract.
use Prim.Native.Nat.{ℕ}
use mathlib.Core.Path.{◌≡◌, ap₂, ◌∙◌}
use Rattle.errors.specs.Numbers.{code_of}
use Rattle.memory.specs.Memory.{memory_in}
use Rattle.serialize.specs.File.{len_of}
use Rattle.c_words.specs.Record.{len_words}
use Rattle.c_words.proofs.FileLaws.{len_read, serialize_law}
use Rattle.c_words.proofs.file.serialize.Goals as goal

pub returns : goal.returns
returns c =
    let a = c.args in
    let call = c.serialize-written in
    let len : c.unwrap_or-n.result ≡ len_of call.result = c.unwrap_or-n.ensures ∙ len_read call.result in
    serialize_law a.«record».now (memory_in a.lent) a.out.now a.len.now (code_of call.result) (len_of call.result) call.new.out c.load.ensures call.ensures
    (c.put_len.ensures ∙ ap₂ (λ (x y : ℕ). len_words x y a.len.now) c.code_of-code.ensures len)

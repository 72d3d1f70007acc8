-- Bytes in an array, with how many of them count beside it: what a session keeps of a text.
use Rattle.std.specs.Prelude.{List, ℕ, take}
use Rattle.wire.specs.declared.Bytes.{Bytes}

-- what a Bytes holds, whatever stands past it and whatever len says
abbrev pub held : {N : ℕ} → Bytes N → List ℕ
held b = take b.len b.bytes

-- Headers.
use Rattle.std.specs.Prelude.{ℕ}
use Rattle.packets.specs.declared.header.Header.{Header}

abbrev pub header_of : ℕ → ℕ → ℕ → ℕ → Header
header_of k s l v = record { kind = k; sounding = s; level = l; value = v }

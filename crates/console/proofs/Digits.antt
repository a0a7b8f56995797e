-- What a byte is written as, with two digits.
use Rattle.std.proofs.Common.{◌≡◌, ℕ, ◌-◌, ◌^◌, false, List, [], ◌++◌, length, replicate, Some, ap, ◌∙◌, append-nil, option_map, arith}
use Rattle.std.specs.Fmt.{digits, padded_integral, char_count, format_spec, digits_output, styled_digits_output}
use Rattle.console.specs.Hexadecimal.{byte_text}

-- under the options of `{:02x}`
padded-two : (numeral : List ℕ) → padded_integral (format_spec 32 0 4 2 (2 ^ 64 - 1)) false [] numeral ≡ replicate (2 - length numeral) 48 ++ numeral
unfolding padded_integral char_count
padded-two numeral =
    let missing : 2 - length numeral - 0 - 0 ≡ 2 - length numeral = omega arith in
    ap (λ n. replicate n 48 ++ (numeral ++ [])) missing ∙ ap (λ xs. replicate (2 - length numeral) 48 ++ xs) (append-nil numeral)

pub styled_byte : (d s : _) (b : ℕ) → s ≡ format_spec 32 0 4 2 (2 ^ 64 - 1) → digits_output d ≡ Some (digits 16 false b) → styled_digits_output d s ≡ Some (byte_text b)
styled_byte d s b options shown =
    ap (styled_digits_output d) options ∙ ap (option_map (padded_integral (format_spec 32 0 4 2 (2 ^ 64 - 1)) false [])) shown ∙ ap Some (padded-two (digits 16 false b))

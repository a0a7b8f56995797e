-- Level readings: their 64 bits, and which are allowed.
use Rattle.std.specs.Prelude.{ℕ, ℤ, ◌+◌, ◌*◌, ◌/◌, ◌%◌, ◌^◌, Bool, ◌&&◌, List, ◌∷◌, ◌++◌, pos, negsuc, int_le, nat_le, unsigned_abs, codes}
use Rattle.std.specs.Fmt.{decimal, signed_decimal, sign_text}
use Rattle.std.specs.Int.{w16, w32, cast_unsigned, cast_signed, is_negative}
use Rattle.values.specs.declared.reading.Reading.{Reading}

-- the 64 bits of a reading, from the high end down: 32 for the height, 16 each for pressure and temperature;
-- height and temperature are signed, in two's complement
abbrev pub reading_bits : Reading → ℕ
reading_bits r = cast_unsigned w32 r.height * 2 ^ 32 + r.pressure * 2 ^ 16 + cast_unsigned w16 r.temperature

-- the reading that 64 bits stand for
abbrev pub reading_of : ℕ → Reading
reading_of v = record {
  height = cast_signed w32 (v / 2 ^ 32);
  pressure = v / 2 ^ 16 % 2 ^ 16;
  temperature = cast_signed w16 (v % 2 ^ 16);
}

-- −500 to 50,000 metres, 1 to 11,000 tenths of hPa, −1,000 to 600 tenths of a degree Celsius
abbrev pub in_range : Reading → Bool
in_range r =
    int_le (negsuc 499) r.height && int_le r.height (pos 50000)
    && nat_le 1 r.pressure && nat_le r.pressure 11000
    && int_le (negsuc 999) r.temperature && int_le r.temperature (pos 600)

-- the kind allows the bits of a reading that is in range
abbrev pub reading_allowed : ℕ → Bool
reading_allowed v = in_range (reading_of v)

-- a number of tenths as text, as a decimal fraction
abbrev pub tenths_text : ℤ → List ℕ
tenths_text t =
    sign_text (is_negative t) ++ (decimal (unsigned_abs t / 10) ++ (codes "." ++ decimal (unsigned_abs t % 10)))

-- a reading as text, with its units; 0xc2 and 0xb0 are the two bytes of the sign for a degree
abbrev pub reading_text : Reading → List ℕ
reading_text r =
    codes "height " ++ (signed_decimal r.height
    ++ (codes " m, pressure " ++ (tenths_text (pos r.pressure)
    ++ (codes " hPa, temperature " ++ (tenths_text r.temperature ++ (codes " " ++ 0xc2 ∷ 0xb0 ∷ codes "C"))))))

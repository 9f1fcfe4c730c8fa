-- What the parts of an evaluation say.
use Rattle.std.specs.Prelude.{◌≡◌, ◌<◌, ℕ, List, true, length, slice_index}
use Rattle.std.specs.Int.Bits.{bit_xor}
use Rattle.lrc_field.specs.Field.{times}
use Rattle.lrc_code.specs.declared.places.Place.{Place}
use Rattle.lrc_code.specs.Code.{AreBytes}
use Rattle.lrc_code.specs.Requests.{Asked, is_among, bytes_of}
use Rattle.lrc_plan.specs.Form.{Form, meaning}
use Rattle.lrc_plan.specs.Evaluation.{byte_at}

-- the survivors have bytes, as many as the request's length
abbrev pub AreWhole : Asked → Type 0
AreWhole r =
    (p : Place) → is_among p r.survivors ≡ true
    → (length (bytes_of r.survivors p) ≡ r.len) × AreBytes (bytes_of r.survivors p)

-- the form means 0 at each position
abbrev pub IsZeroTree : Asked → Form → Type 0
IsZeroTree r t = (i : ℕ) → i < r.len → meaning (byte_at r i) t ≡ 0

-- a factor times the form's meaning at each position
pub record IsScaledValue (factor : ℕ) (r : Asked) (t : Form) (bytes : List ℕ) : Type 0 where
  pub len : length bytes ≡ r.len
  pub at : (i : ℕ) → i < r.len → slice_index bytes i ≡ times factor (meaning (byte_at r i) t)

-- a factor times the form's meaning was added at each position
abbrev pub IsValueAdded : ℕ → Asked → Form → List ℕ → List ℕ → Type 0
IsValueAdded factor r t before after =
    (i : ℕ) → i < length before
    → slice_index after i ≡ bit_xor (slice_index before i) (times factor (meaning (byte_at r i) t))

-- every byte is 0
abbrev pub AreZeros : List ℕ → Type 0
AreZeros bytes = (i : ℕ) → i < length bytes → slice_index bytes i ≡ 0

-- What a tree gives at each position of a request.
use Rattle.std.specs.Prelude.{◌≡◌, ◌<◌, ℕ, List, true, length, slice_index}
use Rattle.lrc_code.specs.declared.places.Place.{Place}
use Rattle.lrc_code.specs.Requests.{Asked, is_among, bytes_of}
use Rattle.lrc_plan.specs.Form.{Form, meaning, has_leaf}

-- the byte that survives at a place and a position; 0 where there is none
abbrev pub byte_at : Asked → ℕ → Place → ℕ
byte_at r i p = slice_index (bytes_of r.survivors p) i

-- the leaves are survivors of the request
abbrev pub CanEvaluate : Asked → Form → Type 0
CanEvaluate r t = (p : Place) → has_leaf t p ≡ true → is_among p r.survivors ≡ true

-- the form's meaning at each position
pub record IsValue (r : Asked) (t : Form) (bytes : List ℕ) : Type 0 where
  pub len : length bytes ≡ r.len
  pub at : (i : ℕ) → i < r.len → slice_index bytes i ≡ meaning (byte_at r i) t

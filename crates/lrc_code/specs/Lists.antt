-- Lists of requests, which a close may end.
use Rattle.std.specs.Prelude.{List, [], ◌∷◌, Option, Some, None}

-- the request of a list's first member, and those after it; nothing where that member is a close
abbrev pub unless_close : {R : Type 0} → Option R → List R → List R
unless_close None rest = []
unless_close (Some request) rest = request ∷ rest

-- the requests before the first close, or all of them, in a list of anything that asks for a request or, with none, is a close
abbrev pub requests_before_close : {T R : Type 0} → (T → Option R) → List T → List R
requests_before_close asked [] = []
requests_before_close asked (x ∷ xs) = unless_close (asked x) (requests_before_close asked xs)

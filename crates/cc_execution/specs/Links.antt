-- What stands around an offset of a method (ECMA-335, I.12.4.2.5 and II.19): the protected code and the handlers of its clauses, from the inside out.
--   chain clauses at     the links around the offset
--   left_for links to    those of the links that are left for an offset
use Rattle.std.specs.Prelude.{ℕ, ◌+◌, List, [], ◌∷◌, ◌++◌, Bool, ◌&&◌, nat_le, nat_lt, if◌then◌else◌}
use Rattle.cc_cil.specs.declared.body.Clause.{Clause}

pub data Link : Type 0 where
  Protected : Clause → Link
  Handling : Clause → Link

-- the offset is one of so many from the first on
abbrev pub in_range : ℕ → ℕ → ℕ → Bool
in_range first count at = nat_le first at && nat_lt at (first + count)

abbrev pub in_try : Clause → ℕ → Bool
in_try c at = in_range c.try_first c.try_length at

abbrev pub in_handler : Clause → ℕ → Bool
in_handler c at = in_range c.handler_first c.handler_length at

abbrev pub link : Clause → ℕ → List Link
link c at = if in_try c at then Protected c ∷ [] else if in_handler c at then Handling c ∷ [] else []

-- Inner clauses stand before outer ones.
abbrev pub chain : List Clause → ℕ → List Link
chain [] at = []
chain (c ∷ clauses) at = link c at ++ chain clauses at

-- the offset lies in what the link stands for
abbrev pub lies_in : Link → ℕ → Bool
lies_in (Protected c) at = in_try c at
lies_in (Handling c) at = in_handler c at

-- from the inside out, up to the first that the offset lies in
abbrev pub left_for : List Link → ℕ → List Link
left_for [] to = []
left_for (l ∷ links) to = if lies_in l to then [] else l ∷ left_for links to

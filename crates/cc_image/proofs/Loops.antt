-- Steps of the loops of the reader.
use Rattle.std.proofs.Common.{◌≡◌, ◌≢◌, ℕ, zero, suc, ◌+◌, ◌<◌, ◌≤◌, Bool, true, false, not, eqb, if◌then◌else◌, List, [], ◌∷◌, ◌++◌, length, min, get_or, drop, Option, Some, None, refl, sym, ap, ◌∙◌, append_assoc, ◌⊎◌, inl, inr, arith}
use Rattle.std.proofs.lemmas.Bool.{eqb-true, eq-eqb}
use Rattle.std.proofs.lemmas.List.{drop_more, drop_all}
use Rattle.cc_layout.specs.declared.field.FieldFault.{FieldFault}
use Rattle.cc_layout.specs.declared.field.FieldFault.TheVariants.{Missing, Differs}
use Rattle.cc_cil.specs.declared.body.Body.{Body}
use Rattle.cc_cil.specs.declared.fault.CodeFault.{CodeFault}
use Rattle.cc_cil.specs.declared.fault.CodeFault.TheVariants as code
use Rattle.cc_cil.specs.BodyFaults.{body_fault}
use Rattle.cc_cil.proofs.Sound.{which}
use Rattle.cc_module.specs.declared.rows.MethodDefRow.{MethodDefRow}
use Rattle.cc_module.specs.Methods.{has_rva}
use Rattle.cc_module.specs.Storable.{aligned}
use Rattle.cc_image.specs.declared.fault.ImageFault.{ImageFault}
use Rattle.cc_image.specs.declared.fault.ImageFault.TheVariants.{BadField, Code, Memory}
use Rattle.cc_image.specs.declared.sizes.Sizes.{Sizes}
use Rattle.cc_image.specs.Headers.{HEADERS, sizes_in}
use Rattle.cc_image.specs.ImageFaults.{first, located, length_fault, fields_fault, cli_fault, headers_fault, zeros_fault, gap_fault, body_at, past_body, fault_at, bodies_in, bodies_end, gaps_fault, in_code, code_error, method_fault, bodies_fault}
use Rattle.cc_image.proofs.Contents.{first_assoc, none_first}

-- ---- zeros

not_equal : (m n : ℕ) → (m ≡ n → ⊥) → eqb m n ≡ false
not_equal m n h = elim (which (eqb m n)) [ inl same ↦ absurd (h (eqb-true m n same)) | inr other ↦ other ]

pub zeros_step : (bytes : List ℕ) (i place byte : ℕ) → i < length bytes → byte ≡ get_or bytes i byte → byte ≡ 0 → zeros_fault place (drop i bytes) ≡ zeros_fault (place + 1) (drop (i + 1) bytes)
zeros_step bytes i place byte lt is z = let here : get_or bytes i byte ≡ 0 = sym is ∙ z in ap (zeros_fault place) (drop_more bytes i byte lt) ∙ rw here refl

pub zeros_stop : (bytes : List ℕ) (i place byte : ℕ) → i < length bytes → byte ≡ get_or bytes i byte → (byte ≡ 0 → ⊥) → zeros_fault place (drop i bytes) ≡ Some (BadField place)
zeros_stop bytes i place byte lt is other =
    let here : eqb (get_or bytes i byte) 0 ≡ false = not_equal (get_or bytes i byte) 0 (λ e. other (is ∙ e)) in
    ap (zeros_fault place) (drop_more bytes i byte lt) ∙ rw here refl

pub zeros_done : (bytes : List ℕ) (i place : ℕ) → length bytes ≤ i → zeros_fault place (drop i bytes) ≡ None
zeros_done bytes i place le = ap (zeros_fault place) (drop_all i bytes le)

-- ---- one method

pub no_rva : (method : MethodDefRow) → method.rva ≡ 0 → has_rva method ≡ false
no_rva method h = rw h refl

pub some_rva : (method : MethodDefRow) → (method.rva ≡ 0 → ⊥) → has_rva method ≡ true
some_rva method h = rw (not_equal method.rva 0 h) refl

module _ (method : MethodDefRow) (methods : List MethodDefRow) (bytes : List ℕ) (row at : ℕ) where
  pub skip_items : has_rva method ≡ false → bodies_in at (method ∷ methods) bytes ≡ bodies_in at methods bytes
  skip_items hasnt = rw hasnt refl

  pub skip_end : has_rva method ≡ false → bodies_end at (method ∷ methods) bytes ≡ bodies_end at methods bytes
  skip_end hasnt = rw hasnt refl

  pub skip_gaps : has_rva method ≡ false → gaps_fault at (method ∷ methods) bytes ≡ gaps_fault at methods bytes
  skip_gaps hasnt = rw hasnt refl

  pub skip_fault : has_rva method ≡ false → bodies_fault row at (method ∷ methods) bytes ≡ bodies_fault (row + 1) at methods bytes
  skip_fault hasnt = rw hasnt refl

  module _ (has_one : has_rva method ≡ true) where
    pub next_items : (done items : List Body) (end : ℕ) → items ≡ done ++ body_at at bytes ∷ [] → end ≡ aligned (past_body at bytes) → done ++ bodies_in at (method ∷ methods) bytes ≡ items ++ bodies_in end methods bytes
    next_items done items end e f = rw (has_one, e, f) (sym (append_assoc done (body_at at bytes ∷ []) (bodies_in (aligned (past_body at bytes)) methods bytes)))

    pub next_end : (end : ℕ) → end ≡ aligned (past_body at bytes) → bodies_end at (method ∷ methods) bytes ≡ bodies_end end methods bytes
    next_end end f = rw (has_one, f) refl

    pub next_gaps : (done gap : Option ImageFault) (end : ℕ) → gap ≡ first done (gap_fault (past_body at bytes) bytes) → end ≡ aligned (past_body at bytes) → first done (gaps_fault at (method ∷ methods) bytes) ≡ first gap (gaps_fault end methods bytes)
    next_gaps done gap end e f = rw (has_one, e, f) (first_assoc done (gap_fault (past_body at bytes) bytes) (gaps_fault (aligned (past_body at bytes)) methods bytes))

    pub next_fine : (end : ℕ) → method_fault row method.rva at bytes ≡ None → end ≡ aligned (past_body at bytes) → bodies_fault row at (method ∷ methods) bytes ≡ bodies_fault (row + 1) end methods bytes
    next_fine end e f = rw (has_one, e, f) refl

    pub next_fault : (f : ImageFault) → method_fault row method.rva at bytes ≡ Some f → bodies_fault row at (method ∷ methods) bytes ≡ Some f
    next_fault f e = rw (has_one, e) refl

-- ---- faults of a body

pub place_differs : (row rva at : ℕ) (bytes : List ℕ) (place : ℕ) → place ≡ at + 0x1E00 → (rva ≡ place → ⊥) → method_fault row rva at bytes ≡ Some (BadField at)
place_differs row rva at bytes place e h = rw (not_equal rva (at + 0x1E00) (λ f. h (f ∙ sym e))) refl

pub place_same : (row rva at : ℕ) (bytes : List ℕ) → rva ≡ at + 0x1E00 → method_fault row rva at bytes ≡ in_code row (fault_at at bytes)
place_same row rva at bytes e = rw (eq-eqb rva (at + 0x1E00) e) refl

-- a fault of a body that isn't want of memory
pub code_there : (row : ℕ) (fault : CodeFault) (f : ImageFault) → code_error row fault ≡ f → (f ≡ Memory → ⊥) → (f ≡ Code row fault) × (fault ≡ code.Memory → ⊥)
code_there row (code.Short place) f e h = (sym e, λ g. cc)
code_there row (code.UnknownOpcode place) f e h = (sym e, λ g. cc)
code_there row (code.BadHeader place) f e h = (sym e, λ g. cc)
code_there row (code.BadClause place) f e h = (sym e, λ g. cc)
code_there row code.Memory f e h = absurd (h (sym e))

-- ---- the headers

pub located_none : (fault : Option FieldFault) → located fault ≡ None → fault ≡ None
located_none None h = refl
located_none (Some (Missing place)) h = absurd cc
located_none (Some (Differs place)) h = absurd cc

pub first_some : (a b : Option ImageFault) (f : ImageFault) → a ≡ Some f → first a b ≡ Some f
first_some a b f e = rw e refl

pub first_none : (a b : Option ImageFault) → a ≡ None → first a b ≡ b
first_none a b e = rw e refl

pub at_fields : (s : Sizes) (bytes : List ℕ) (f : ImageFault) → s ≡ sizes_in bytes → fields_fault s bytes ≡ Some f → headers_fault bytes ≡ Some f
unfolding headers_fault
at_fields s bytes f is e = rw (← is) (first_some (fields_fault s bytes) _ f e)

pub at_length : (s : Sizes) (bytes : List ℕ) (f : ImageFault) → s ≡ sizes_in bytes → fields_fault s bytes ≡ None → length_fault (HEADERS + s.section) bytes ≡ Some f → headers_fault bytes ≡ Some f
unfolding headers_fault
at_length s bytes f is fine e = rw (← is) (first_none (fields_fault s bytes) _ fine ∙ first_some (length_fault (HEADERS + s.section) bytes) _ f e)

pub at_cli : (s : Sizes) (bytes : List ℕ) (fault : Option ImageFault) → s ≡ sizes_in bytes → fields_fault s bytes ≡ None → length_fault (HEADERS + s.section) bytes ≡ None → cli_fault s bytes ≡ fault → headers_fault bytes ≡ fault
unfolding headers_fault
at_cli s bytes fault is fine long e = rw (← is) (first_none (fields_fault s bytes) _ fine ∙ first_none (length_fault (HEADERS + s.section) bytes) _ long ∙ e)

pub body_there : (row rva at : ℕ) (bytes : List ℕ) (fault : CodeFault) (f : ImageFault) → rva ≡ at + 0x1E00 → fault_at at bytes ≡ Some fault → f ≡ Code row fault → method_fault row rva at bytes ≡ Some f
body_there row rva at bytes fault f e h is = place_same row rva at bytes e ∙ ap (in_code row) h ∙ ap Some (sym is)

pub body_fine : (row rva at : ℕ) (bytes : List ℕ) → rva ≡ at + 0x1E00 → fault_at at bytes ≡ None → method_fault row rva at bytes ≡ None
body_fine row rva at bytes e h = place_same row rva at bytes e ∙ ap (in_code row) h

pub read_fault : (at : ℕ) (bytes : List ℕ) (fault : CodeFault) → at ≤ length bytes → body_fault (min at (length bytes)) (drop at bytes) ≡ Some fault → fault_at at bytes ≡ Some fault
unfolding fault_at
read_fault at bytes fault within h = let same : min at (length bytes) ≡ at = omega (arith, within) in rw same at h

-- a fault of the method that comes next
pub method_ends : (methods : List MethodDefRow) (i row at : ℕ) (method : MethodDefRow) (bytes : List ℕ) (total : Option ImageFault) (f : ImageFault) → i < length methods → method ≡ get_or methods i method
    → total ≡ bodies_fault row at (drop i methods) bytes → bodies_fault row at (method ∷ drop (i + 1) methods) bytes ≡ Some f → total ≡ Some f
method_ends methods i row at method bytes total f lt is so_far e =
    let left : drop i methods ≡ method ∷ drop (i + 1) methods = drop_more methods i method lt ∙ ap (λ (x : MethodDefRow). x ∷ drop (i + 1) methods) (sym is) in
    so_far ∙ ap (λ (x : List MethodDefRow). bodies_fault row at x bytes) left ∙ e

-- The scan answers none but its own kinds.
use Rattle.std.proofs.Common.{◌≡◌, subst, List, [], ◌∷◌, Bool, true, false, Option, Some, None}
use Rattle.std.specs.Prelude.{cond}
use Rattle.cc_base.specs.declared.text.Span.{Span}
use Rattle.cc_tree.specs.declared.token.Token.{Token}
use Rattle.cc_terminals.specs.Scan.{fault_of, first_fault, or_else}
use Rattle.cc_terminals.specs.declared.fault.ParseFault.{ParseFault}
use Rattle.cc_terminals.specs.declared.fault.ParseFault.TheVariants as fault
use Rattle.cc_grammar.specs.Parse.{Refuses}

data OfScan : Option ParseFault → Type 0 where
  nothing : OfScan None
  outside_profile : {span : Span} → OfScan (Some (fault.OutsideProfile span))
  float_type : {span : Span} → OfScan (Some (fault.FloatType span))
  mixed_mode : {span : Span} → OfScan (Some (fault.MixedMode span))

either : (b : Bool) (x y : Option ParseFault) → OfScan x → OfScan y → OfScan (cond b x y)
either true x y p q = p
either false x y p q = q

one_else : (x y : Option ParseFault) → OfScan x → OfScan y → OfScan (or_else x y)
one_else None y nothing q = q
one_else (Some one) y p q = p

of_token : (token : Token) (class_may_stand char_may_stand : Bool) → OfScan (fault_of token class_may_stand char_may_stand)
of_token token class_may_stand char_may_stand = either _ _ _ float_type (either _ _ _ mixed_mode (either _ _ _ outside_profile nothing))

of_scan : (class_may_stand char_may_stand : Bool) (long : Option Token) (tokens : List Token) → OfScan (first_fault class_may_stand char_may_stand long tokens)
of_scan class_may_stand char_may_stand None [] = nothing
of_scan class_may_stand char_may_stand (Some long) [] = outside_profile
of_scan class_may_stand char_may_stand None (token ∷ tokens) =
    either _ _ _ (of_scan false false (Some token) tokens) (one_else _ _ (of_token token class_may_stand char_may_stand) (of_scan _ _ None tokens))
of_scan class_may_stand char_may_stand (Some long) (token ∷ tokens) = either _ _ _ (of_scan false false None tokens) outside_profile

pub scanned : (tokens : List Token) (found : ParseFault) → first_fault false false None tokens ≡ Some found → Refuses tokens found
scanned tokens found e = refused found e (subst OfScan e (of_scan false false None tokens))
  where
    refused : (found : ParseFault) → first_fault false false None tokens ≡ Some found → OfScan (Some found) → Refuses tokens found
    refused (fault.OutsideProfile span) e outside_profile = e
    refused (fault.FloatType span) e float_type = e
    refused (fault.MixedMode span) e mixed_mode = e
    refused (fault.Syntax _) e found_so = elim found_so [ ]
    refused (fault.TooDeep _) e found_so = elim found_so [ ]
    refused (fault.NativePointer _) e found_so = elim found_so [ ]
    refused fault.Memory e found_so = elim found_so [ ]

-- The signatures of a module, table by table and row by row.
use Rattle.std.proofs.Common.{◌≡◌, ℕ, ◌+◌, ◌<◌, ◌^◌, List, [], ◌∷◌, ◌++◌, length, get_or, take, drop, map, refl, sym, ap, subst, ◌∙◌, append_assoc, inl, inr, arith}
use Rattle.std.specs.List.{flat_map, AllByRecursion}
use Rattle.std.proofs.lemmas.List.{append-nil, take_more, drop_more, take-append-drop}
use Rattle.std.proofs.lemmas.List.Concat.{flat_map-cons}
use Rattle.std.proofs.lemmas.Grind.{flat_map-append}
use Rattle.cc_module.specs.declared.module.Module.{Module}
use Rattle.cc_module.specs.Rows as of
use Rattle.cc_module.specs.Rows.{Cell, all_cells, early_cells, late_cells}
use Rattle.cc_module.specs.Signatures.{IsSignature}
use Rattle.cc_tables.specs.declared.fault.TableFault.{TableFault}
use Rattle.cc_tables.specs.Numbering.{IsShort, AreShort}
use Rattle.cc_tables.specs.Reading.{signature_of, IsBadSignature, SignatureFault}
use Rattle.cc_tables.proofs.Written.{parts, from_type_ref, from_type_def, from_field, from_method_def, from_param, from_interface_impl, from_member_ref, from_constant, from_property_map, from_property, from_method_semantics, from_method_impl, from_type_spec, from_assembly, from_assembly_ref, from_generic_param, from_method_spec, from_generic_param_constraint}

-- ---- the first fault of some signatures after others

pub all_both : {A : Type 0} (P : A → Type 0) (a b : List A) → AllByRecursion P a → AllByRecursion P b → AllByRecursion P (a ++ b)
all_both P [] b h k = k
all_both P (x ∷ a) b h k = (h.0, all_both P a b h.1 k)

module _ (at : ℕ) (texts : List (List ℕ)) (fault : TableFault) where
  pub fault_front : (a b : List (List ℕ)) → SignatureFault at texts a fault → SignatureFault at texts (a ++ b) fault
  fault_front [] b h = absurd h
  fault_front (text ∷ a) b h =
      elim h [
        | inl x ↦ inl x
        | inr y ↦ inr (y.0, fault_front a b y.1)
      ]

  pub fault_behind : (a b : List (List ℕ)) → AllByRecursion IsSignature a → SignatureFault at texts b fault → SignatureFault at texts (a ++ b) fault
  fault_behind [] b h k = k
  fault_behind (text ∷ a) b h k = inr (h.0, fault_behind a b h.1 k)

-- ---- row by row

pub map_both : {X Y : Type 0} (f : X → Y) (a b : List X) → map f (a ++ b) ≡ map f a ++ map f b
map_both f [] b = refl
map_both f (x ∷ a) b = ap (λ (t : List _). f x ∷ t) (map_both f a b)

all_later : {A : Type 0} (P : A → Type 0) (a b : List A) → AllByRecursion P (a ++ b) → AllByRecursion P b
all_later P [] b h = h
all_later P (x ∷ a) b h = all_later P a b h.1

module _ {R : Type 0} (f : R → List ℕ) (rows : List R) (i : ℕ) (one : R) (lt : i < length rows) (is : one ≡ get_or rows i one) where
  -- those before, this one and those after
  rows_parted : map f rows ≡ map f (take i rows) ++ f one ∷ map f (drop (i + 1) rows)
  rows_parted =
      ap (map f) (sym (take-append-drop i rows)) ∙ map_both f (take i rows) (drop i rows)
      ∙ ap (λ (x : List (List ℕ)). map f (take i rows) ++ x) (ap (map f) (drop_more rows i one lt) ∙ ap (λ (x : R). f x ∷ map f (drop (i + 1) rows)) (sym is))

  pub one_of_all : (P : List ℕ → Type 0) → AllByRecursion P (map f rows) → P (f one)
  one_of_all P h = (all_later P (map f (take i rows)) (f one ∷ map f (drop (i + 1) rows)) (subst (AllByRecursion P) rows_parted h)).0

  pub one_more : AllByRecursion IsSignature (map f (take i rows)) → IsSignature (f one) → AllByRecursion IsSignature (map f (take (i + 1) rows))
  one_more h k =
      let next : map f (take (i + 1) rows) ≡ map f (take i rows) ++ f one ∷ [] =
      ap (map f) (take_more rows i one lt) ∙ map_both f (take i rows) (get_or rows i one ∷ []) ∙ ap (λ (x : R). map f (take i rows) ++ f x ∷ []) (sym is) in
      subst (AllByRecursion IsSignature) (sym next) (all_both IsSignature (map f (take i rows)) (f one ∷ []) h (k, tt))

  pub one_bad : (at : ℕ) (texts : List (List ℕ)) (fault : TableFault) → AllByRecursion IsSignature (map f (take i rows)) → IsBadSignature at texts (f one) fault → SignatureFault at texts (map f rows) fault
  one_bad at texts fault h k =
      subst (λ (x : List (List ℕ)). SignatureFault at texts x fault) (sym rows_parted) (fault_behind at texts fault (map f (take i rows)) (f one ∷ map f (drop (i + 1) rows)) h (inl k))

-- ---- table by table

-- a table whose rows have one signature, and one whose rows have none
one_each : {R : Type 0} (cells : R → List Cell) (text : R → List ℕ) → ((r : R) → flat_map signature_of (cells r) ≡ text r ∷ []) → (rows : List R) → flat_map signature_of (flat_map cells rows) ≡ map text rows
one_each cells text is [] = refl
one_each cells text is (r ∷ rows) = ap (flat_map signature_of) (flat_map-cons cells r rows) ∙ flat_map-append signature_of (cells r) (flat_map cells rows) ∙ (λ i. is r i ++ one_each cells text is rows i)

none_each : {R : Type 0} (cells : R → List Cell) → ((r : R) → flat_map signature_of (cells r) ≡ []) → (rows : List R) → flat_map signature_of (flat_map cells rows) ≡ []
none_each cells is [] = refl
none_each cells is (r ∷ rows) = ap (flat_map signature_of) (flat_map-cons cells r rows) ∙ flat_map-append signature_of (cells r) (flat_map cells rows) ∙ (λ i. is r i ++ none_each cells is rows i)

both : (a b : List Cell) (x y : List (List ℕ)) → flat_map signature_of a ≡ x → flat_map signature_of b ≡ y → flat_map signature_of (a ++ b) ≡ x ++ y
both a b x y e f = flat_map-append signature_of a b ∙ (λ i. e i ++ f i)

-- those of the tables 00 to 0B
abbrev pub early_signatures : Module → List (List ℕ)
early_signatures m = map (λ r. r.signature) m.fields ++ (map (λ r. r.signature) m.methods ++ map (λ r. r.signature) m.member_refs)

-- those of the tables 11 to 2C
abbrev pub late_signatures : Module → List (List ℕ)
late_signatures m =
    map (λ r. r.signature) m.stand_alone_sigs ++ (map (λ r. r.signature) m.properties ++ (map (λ r. r.signature) m.type_specs ++ map (λ r. r.instantiation) m.method_specs))

early_known : (m : Module) → flat_map signature_of (early_cells m) ≡ early_signatures m
early_known m =
    let fields : List (List ℕ) = map (λ r. r.signature) m.fields in
    let methods : List (List ℕ) = map (λ r. r.signature) m.methods in
    let member_refs : List (List ℕ) = map (λ r. r.signature) m.member_refs in
    let last : flat_map signature_of (from_member_ref m) ≡ member_refs =
    both (flat_map of.member_ref_cells m.member_refs) (from_constant m) member_refs [] (one_each of.member_ref_cells (λ r. r.signature) (λ r. refl) m.member_refs) (none_each of.constant_cells (λ r. refl) m.constants) ∙ append-nil member_refs in
    let after_methods : flat_map signature_of (from_param m) ≡ member_refs =
    both (flat_map of.param_cells m.params) (from_interface_impl m) [] member_refs (none_each of.param_cells (λ r. refl) m.params)
    (both (flat_map of.interface_impl_cells m.interface_impls) (from_member_ref m) [] member_refs (none_each of.interface_impl_cells (λ r. refl) m.interface_impls) last) in
    let from_fields : flat_map signature_of (from_field m) ≡ fields ++ (methods ++ member_refs) =
    both (flat_map of.field_cells m.fields) (from_method_def m) fields (methods ++ member_refs) (one_each of.field_cells (λ r. r.signature) (λ r. refl) m.fields)
    (both (flat_map of.method_def_cells m.methods) (from_param m) methods member_refs (one_each of.method_def_cells (λ r. r.signature) (λ r. refl) m.methods) after_methods) in
    both (flat_map of.module_cells m.modules) (from_type_ref m) [] (fields ++ (methods ++ member_refs)) (none_each of.module_cells (λ r. refl) m.modules)
    (both (flat_map of.type_ref_cells m.type_refs) (from_type_def m) [] (fields ++ (methods ++ member_refs)) (none_each of.type_ref_cells (λ r. refl) m.type_refs)
    (both (flat_map of.type_def_cells m.type_defs) (from_field m) [] (fields ++ (methods ++ member_refs)) (none_each of.type_def_cells (λ r. refl) m.type_defs) from_fields))

late_known : (m : Module) → flat_map signature_of (late_cells m) ≡ late_signatures m
late_known m =
    let stand_alone_sigs : List (List ℕ) = map (λ r. r.signature) m.stand_alone_sigs in
    let properties : List (List ℕ) = map (λ r. r.signature) m.properties in
    let type_specs : List (List ℕ) = map (λ r. r.signature) m.type_specs in
    let method_specs : List (List ℕ) = map (λ r. r.instantiation) m.method_specs in
    let last : flat_map signature_of (from_method_spec m) ≡ method_specs =
    both (flat_map of.method_spec_cells m.method_specs) (from_generic_param_constraint m) method_specs [] (one_each of.method_spec_cells (λ r. r.instantiation) (λ r. refl) m.method_specs)
    (none_each of.generic_param_constraint_cells (λ r. refl) m.generic_param_constraints) ∙ append-nil method_specs in
    let after_type_specs : flat_map signature_of (from_assembly m) ≡ method_specs =
    both (flat_map of.assembly_cells m.assemblies) (from_assembly_ref m) [] method_specs (none_each of.assembly_cells (λ r. refl) m.assemblies)
    (both (flat_map of.assembly_ref_cells m.assembly_refs) (from_generic_param m) [] method_specs (none_each of.assembly_ref_cells (λ r. refl) m.assembly_refs)
    (both (flat_map of.generic_param_cells m.generic_params) (from_method_spec m) [] method_specs (none_each of.generic_param_cells (λ r. refl) m.generic_params) last)) in
    let after_properties : flat_map signature_of (from_method_semantics m) ≡ type_specs ++ method_specs =
    both (flat_map of.method_semantics_cells m.method_semantics) (from_method_impl m) [] (type_specs ++ method_specs) (none_each of.method_semantics_cells (λ r. refl) m.method_semantics)
    (both (flat_map of.method_impl_cells m.method_impls) (from_type_spec m) [] (type_specs ++ method_specs) (none_each of.method_impl_cells (λ r. refl) m.method_impls)
    (both (flat_map of.type_spec_cells m.type_specs) (from_assembly m) type_specs method_specs (one_each of.type_spec_cells (λ r. r.signature) (λ r. refl) m.type_specs) after_type_specs)) in
    both (flat_map of.stand_alone_sig_cells m.stand_alone_sigs) (from_property_map m) stand_alone_sigs (properties ++ (type_specs ++ method_specs)) (one_each of.stand_alone_sig_cells (λ r. r.signature) (λ r. refl) m.stand_alone_sigs)
    (both (flat_map of.property_map_cells m.property_maps) (from_property m) [] (properties ++ (type_specs ++ method_specs)) (none_each of.property_map_cells (λ r. refl) m.property_maps)
    (both (flat_map of.property_cells m.properties) (from_method_semantics m) properties (type_specs ++ method_specs) (one_each of.property_cells (λ r. r.signature) (λ r. refl) m.properties) after_properties))

pub signatures_known : (m : Module) → flat_map signature_of (all_cells m) ≡ early_signatures m ++ late_signatures m
signatures_known m = both (early_cells m) (late_cells m) (early_signatures m) (late_signatures m) (early_known m) (late_known m)

-- ---- each is short

short_each : {R : Type 0} (cells : R → List Cell) (text : R → List ℕ) → ((r : R) → AllByRecursion IsShort (cells r) → length (text r) < 2 ^ 29) → (rows : List R) → AllByRecursion IsShort (flat_map cells rows) → AllByRecursion (λ t. length t < 2 ^ 29) (map text rows)
short_each cells text is [] h = tt
short_each cells text is (r ∷ rows) h =
    let p = parts IsShort (cells r) (flat_map cells rows) (subst (AllByRecursion IsShort) (flat_map-cons cells r rows) h) in
    (is r p.0, short_each cells text is rows p.1)

module _ (m : Module) (h : AreShort m) where
  pub short_fields : AllByRecursion (λ t. length t < 2 ^ 29) (map (λ r. r.signature) m.fields)
  short_fields = short_each of.field_cells (λ r. r.signature) (λ r k. k.1.1.0) m.fields h.fields

  pub short_methods : AllByRecursion (λ t. length t < 2 ^ 29) (map (λ r. r.signature) m.methods)
  short_methods = short_each of.method_def_cells (λ r. r.signature) (λ r k. k.1.1.1.1.0) m.methods h.methods

  pub short_member_refs : AllByRecursion (λ t. length t < 2 ^ 29) (map (λ r. r.signature) m.member_refs)
  short_member_refs = short_each of.member_ref_cells (λ r. r.signature) (λ r k. k.1.1.0) m.member_refs h.member_refs

  pub short_stand_alone_sigs : AllByRecursion (λ t. length t < 2 ^ 29) (map (λ r. r.signature) m.stand_alone_sigs)
  short_stand_alone_sigs = short_each of.stand_alone_sig_cells (λ r. r.signature) (λ r k. k.0) m.stand_alone_sigs h.stand_alone_sigs

  pub short_properties : AllByRecursion (λ t. length t < 2 ^ 29) (map (λ r. r.signature) m.properties)
  short_properties = short_each of.property_cells (λ r. r.signature) (λ r k. k.1.1.0) m.properties h.properties

  pub short_type_specs : AllByRecursion (λ t. length t < 2 ^ 29) (map (λ r. r.signature) m.type_specs)
  short_type_specs = short_each of.type_spec_cells (λ r. r.signature) (λ r k. k.0) m.type_specs h.type_specs

  pub short_method_specs : AllByRecursion (λ t. length t < 2 ^ 29) (map (λ r. r.instantiation) m.method_specs)
  short_method_specs = short_each of.method_spec_cells (λ r. r.instantiation) (λ r k. k.1.0) m.method_specs h.method_specs

-- ---- seven tables one after the other

module _ (at : ℕ) (texts all a b c d e f g : List (List ℕ)) (is : all ≡ (a ++ (b ++ c)) ++ (d ++ (e ++ (f ++ g)))) where
  abbrev Wrong : TableFault → List (List ℕ) → Type 0
  Wrong fault list = SignatureFault at texts list fault

  abbrev Right : List (List ℕ) → Type 0
  Right list = AllByRecursion IsSignature list

  abbrev front : List (List ℕ)
  front = a ++ (b ++ c)

  abbrev back : List (List ℕ)
  back = d ++ (e ++ (f ++ g))

  in_front : (fault : TableFault) → Wrong fault front → Wrong fault all
  in_front fault h = subst (Wrong fault) (sym is) (fault_front at texts fault front back h)

  pub first_wrong : (fault : TableFault) → Wrong fault a → Wrong fault all
  first_wrong fault h = in_front fault (fault_front at texts fault a (b ++ c) h)

  module _ (ra : Right a) where
    pub second_wrong : (fault : TableFault) → Wrong fault b → Wrong fault all
    second_wrong fault h = in_front fault (fault_behind at texts fault a (b ++ c) ra (fault_front at texts fault b c h))

    module _ (rb : Right b) where
      pub third_wrong : (fault : TableFault) → Wrong fault c → Wrong fault all
      third_wrong fault h = in_front fault (fault_behind at texts fault a (b ++ c) ra (fault_behind at texts fault b c rb h))

      module _ (rc : Right c) where
        front_right : Right front
        front_right = all_both IsSignature a (b ++ c) ra (all_both IsSignature b c rb rc)

        in_back : (fault : TableFault) → Wrong fault back → Wrong fault all
        in_back fault h = subst (Wrong fault) (sym is) (fault_behind at texts fault front back front_right h)

        pub fourth_wrong : (fault : TableFault) → Wrong fault d → Wrong fault all
        fourth_wrong fault h = in_back fault (fault_front at texts fault d (e ++ (f ++ g)) h)

        module _ (rd : Right d) where
          pub fifth_wrong : (fault : TableFault) → Wrong fault e → Wrong fault all
          fifth_wrong fault h = in_back fault (fault_behind at texts fault d (e ++ (f ++ g)) rd (fault_front at texts fault e (f ++ g) h))

          module _ (re : Right e) where
            pub sixth_wrong : (fault : TableFault) → Wrong fault f → Wrong fault all
            sixth_wrong fault h = in_back fault (fault_behind at texts fault d (e ++ (f ++ g)) rd (fault_behind at texts fault e (f ++ g) re (fault_front at texts fault f g h)))

            module _ (rf : Right f) where
              pub seventh_wrong : (fault : TableFault) → Wrong fault g → Wrong fault all
              seventh_wrong fault h = in_back fault (fault_behind at texts fault d (e ++ (f ++ g)) rd (fault_behind at texts fault e (f ++ g) re (fault_behind at texts fault f g rf h)))

              pub all_right : Right g → Right all
              all_right rg = subst Right (sym is) (all_both IsSignature front back front_right (all_both IsSignature d (e ++ (f ++ g)) rd (all_both IsSignature e (f ++ g) re (all_both IsSignature f g rf rg))))

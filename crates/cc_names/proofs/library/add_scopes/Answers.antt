use Rattle.std.proofs.Common.{◌≡◌, ◌∙◌, ap, ◌++◌, ◌∷◌, [], append_assoc, map}
use Rattle.cc_names.specs.declared.catalogue.TheConstants.{LIBRARY}
use Rattle.cc_names.specs.LibraryRows.{system_scope, class_scope_of}
use Rattle.cc_names.proofs.library.add_scopes.Goals as goal

pub returns : goal.returns
returns c =
    let e = c.in_ok-add_class_scopes.ensures in
    let pushed = c.in_ok-push.ensures.ok in
    let one = c.in_ok-system_scope.ensures in
    e ∙ ap (λ l. l ++ map (λ row. class_scope_of c.args.first row.0.now) LIBRARY) (pushed ∙ ap (λ scope. c.args.scopes.now ++ scope ∷ []) one)
    ∙ append_assoc c.args.scopes.now (system_scope ∷ []) (map (λ row. class_scope_of c.args.first row.0.now) LIBRARY)

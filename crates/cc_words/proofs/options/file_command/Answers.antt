use Rattle.std.proofs.Common.{rules, ap, codes, ◌≡◌, ◌∙◌, ap₂}
use Rattle.std.proofs.lemmas.Result.{IfOk-weaker}
use Rattle.clap.specs.Words.{app_of, new_app, rule_of, with_rule}
use Rattle.clap.specs.Simple.{app_of_fields}
use Rattle.cc_words.specs.Options.{file_rule, without_name, without_help, without_version}
use Rattle.cc_words.proofs.options.file_command.Goals as goal

pub returns : goal.returns
returns c =
    let file_is : rule_of c.required-file.result ≡ file_rule = search rules in
    let unnamed : app_of c.no_binary_name.result ≡ without_name (new_app (codes "cppcli")) = ap app_of_fields c.no_binary_name.ensures ∙ ap without_name c.new-2.ensures.app in
    let helpless : app_of c.disable_help_flag.result ≡ without_help (app_of c.no_binary_name.result) = ap app_of_fields c.disable_help_flag.ensures in
    let plain : app_of c.disable_version_flag.result ≡ without_version (app_of c.disable_help_flag.result) = ap app_of_fields c.disable_version_flag.ensures in
    let plain_is = plain ∙ ap without_version (helpless ∙ ap without_help unnamed) in
    IfOk-weaker c.arg.result _ _ (λ command added. added.shape (search rules) ∙ ap₂ with_rule plain_is file_is) c.arg.ensures

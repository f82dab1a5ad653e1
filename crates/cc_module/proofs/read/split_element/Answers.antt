use Rattle.std.proofs.Common.{refl, rules}
use Rattle.cc_module.proofs.Elements.{at_front, element_empty, element_unknown, element_inside, value_bad, class_bad, variable_bad, method_bad}
use Rattle.cc_module.proofs.read.split_element.Goals as goal

pub returns-in_default-clause-err : goal.returns-in_default-clause-err
returns-in_default-clause-err c = element_empty _ c.in_default.len_below

pub returns-in-Err-clause-err : goal.returns-in-Err-clause-err
returns-in-Err-clause-err c = value_bad _ _ _ (at_front c.args.bytes.now _ c.in-len1-up.len_at_least c.in-17.is) c.in-Err.ensures.err

pub returns-in-Err-split_token-clause-err : goal.returns-in-Err-split_token-clause-err
returns-in-Err-split_token-clause-err c = class_bad _ _ _ (at_front c.args.bytes.now _ c.in-len1-up.len_at_least c.in-18.is) c.in-Err-split_token.ensures.err

pub returns-in-Err-split_compressed-clause-err : goal.returns-in-Err-split_compressed-clause-err
returns-in-Err-split_compressed-clause-err c = variable_bad _ _ _ (at_front c.args.bytes.now _ c.in-len1-up.len_at_least c.in-19.is) c.in-Err-split_compressed.ensures.err

pub returns-in-Err-split_instance-clause-err : goal.returns-in-Err-split_instance-clause-err
returns-in-Err-split_instance-clause-err c = element_inside 0x15 _ _ _ (at_front c.args.bytes.now _ c.in-len1-up.len_at_least c.in-21.is) c.in-Err-split_instance.ensures.err

pub returns-in-Err-split_compressed-2-clause-err : goal.returns-in-Err-split_compressed-2-clause-err
returns-in-Err-split_compressed-2-clause-err c = method_bad _ _ _ (at_front c.args.bytes.now _ c.in-len1-up.len_at_least c.in-30.is) c.in-Err-split_compressed-2.ensures.err

pub returns-in_default-mark-clause-err : goal.returns-in_default-mark-clause-err
returns-in_default-mark-clause-err c = element_unknown _ _ _ (at_front c.args.bytes.now _ c.in-len1-up.len_at_least refl) (search rules)

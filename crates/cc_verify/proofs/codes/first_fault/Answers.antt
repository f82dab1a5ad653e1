use Rattle.cc_verify.proofs.Coded.{class_first, none_first, code_first}
use Rattle.cc_verify.proofs.codes.first_fault.Goals as goal

pub returns-in-Some : goal.returns-in-Some
returns-in-Some c = class_first c.args.«module».now c.in_ok-read.read c.in_ok-found.found c.in-Some.at c.in_ok-read.ensures c.in_ok-found.ensures c.in-Some.is

pub returns-in-None-code : goal.returns-in-None-code
returns-in-None-code c =
    none_first c.args.«module».now c.in_ok-read.read c.in_ok-found.found c.in_ok-environment.environment c.in_ok-code.code c.in_ok-read.ensures c.in_ok-found.ensures c.in-None.is c.in_ok-environment.ensures c.in_ok-code.ensures c.in-None-code.is

pub returns : goal.returns
returns c =
    code_first c.args.«module».now c.in_ok-read.read c.in_ok-found.found c.in_ok-environment.environment c.in_ok-code.code c.in-Some-code.at c.in_ok-read.ensures c.in_ok-found.ensures c.in-None.is c.in_ok-environment.ensures c.in_ok-code.ensures c.in-Some-code.is

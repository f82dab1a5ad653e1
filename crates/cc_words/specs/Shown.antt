-- A request as a value.
use Rattle.std.specs.Prelude.{map, string_bytes}
use Rattle.cc_words.specs.declared.command.Request.{Request}
use Rattle.cc_words.specs.Words.{CommandLine}

abbrev pub shown : Request → CommandLine
shown request = record { command = request.command; file = request.file.now; bound = request.bound; arguments = map (λ word. string_bytes word) request.arguments.now }

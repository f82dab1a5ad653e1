-- The module of each program of functions that fit can be stored, and its numbers are of their types.
use Rattle.std.proofs.Common.{◌≡◌, ℕ, ◌+◌, ◌^◌, ◌<◌, ◌≤◌, List, [], ◌∷◌, ◌++◌, length, arith}
use Rattle.std.specs.List.{AllByRecursion}
use Rattle.cc_module.specs.Storable.{IsStorable, IsInRange, image_size}
use Rattle.cc_emit.specs.Program.{image_limit}
use Rattle.cc_functions.specs.declared.function.Function.{Function}
use Rattle.cc_functions.specs.Fits.{Fits, FitsFunction, HasRange, total_size}
use Rattle.cc_functions.specs.Laws.{FitsFile}
use Rattle.cc_functions.specs.Program.{METHOD, functions_module, methods_of, start}
use Rattle.cc_functions.proofs.Cells.{image_low, total_all}
use Rattle.cc_functions.proofs.Ranges.{start_range, few_methods, in_range}
use Rattle.cc_functions.proofs.Storable.{join, start_fits, storable}

all_fit : (functions : List Function) (main : ℕ) → Fits functions → AllByRecursion FitsFunction (methods_of functions main)
all_fit functions main fits = join FitsFunction functions (start main ∷ []) fits.each (start_fits main, tt)

pub few_all : (functions : List Function) (main : ℕ) → Fits functions → total_size (methods_of functions main) ≤ 268431442
few_all functions main fits =
    let all = total_all functions main in
    let size = fits.size in
    omega (arith, all, size)

pub is_storable : (functions : List Function) (main : ℕ) → Fits functions → IsStorable (functions_module functions main)
is_storable functions main fits = storable (methods_of functions main) (METHOD + length functions + 1) (all_fit functions main fits) (few_all functions main fits)

pub is_within : (functions : List Function) (main : ℕ) → Fits functions → image_size (functions_module functions main) ≤ image_limit
is_within functions main fits =
    let most = image_low (methods_of functions main) (METHOD + length functions + 1) in
    let few = few_all functions main fits in
    omega (arith, most, few)

pub fits_file : (functions : List Function) (main : ℕ) → Fits functions → FitsFile functions main
fits_file functions main fits = (is_storable functions main fits, is_within functions main fits)

pub is_in_range : (functions : List Function) (main : ℕ) → Fits functions → AllByRecursion HasRange functions → IsInRange (functions_module functions main)
is_in_range functions main fits range =
    let count = few_methods functions in
    let size = fits.size in
    in_range (methods_of functions main) (METHOD + length functions + 1) (all_fit functions main fits) (join HasRange functions (start main ∷ []) range (start_range main, tt)) (few_all functions main fits) (omega (arith, count, size))

use Rattle.std.proofs.Common.{◌≡◌, ℕ, ◌+◌, ◌<◌, ◌≤◌, List, [], ◌∷◌, ◌++◌, length, drop, sym, subst, arith}
use Rattle.cc_functions.specs.declared.function.Function.{Function}
use Rattle.cc_functions.specs.declared.methods.Methods.{Methods}
use Rattle.cc_cil.specs.Bodies.{body_bytes}
use Rattle.cc_module.specs.Storable.{aligned}
use Rattle.cc_functions.specs.Fits.{FitsFunction}
use Rattle.cc_functions.specs.Program.{local_row, method_row}
use Rattle.cc_functions.specs.Program as spec
use Rattle.cc_functions.proofs.Appending.{Part, begins, goes_on, room, counted, item_has, at_item, at_end, rows_whole, locals_whole, bodies_whole}
use Rattle.cc_functions.proofs.Cells.{total-append}
use Rattle.cc_functions.proofs.methods.methods_of.Goals as goal

abbrev whole : List Function → Function → List Function
whole functions start = functions ++ start ∷ []

pub loop-function-init : goal.loop-function-init
loop-function-init c =
    let all = whole c.args.functions.now c.args.start.now in
    let total = total-append c.args.functions.now (c.args.start.now ∷ []) in
    let size = c.requires.size in
    subst (λ (m : Methods). Part all all m.rows m.locals m.bodies m.place) (sym c.new-made.ensures) (begins all (omega (arith, total, size)))

pub append-requires : goal.append-requires
append-requires c =
    let fs = c.args.functions.now in
    let s = c.args.start.now in
    let all = whole fs s in
    let i = c.loop-function.function-index in
    let m = c.loop-function.made in
    let f = c.function-item.result in
    let rest = drop (i + 1) fs ++ s ∷ [] in
    let part : Part all (f ∷ rest) m.rows m.locals m.bodies m.place = at_item all fs s f i m.rows m.locals m.bodies m.place c.loop-function-test.true c.function-item.is c.loop-function.invariant in
    record {
      function = item_has FitsFunction fs i f c.loop-function-test.true c.function-item.is c.requires.each;
      size = room all rest f m.rows m.locals m.bodies m.place part;
      rows = counted all rest f m.rows m.locals m.bodies m.place part;
    }

pub loop-function-preserved : goal.loop-function-preserved
loop-function-preserved c =
    let fs = c.args.functions.now in
    let s = c.args.start.now in
    let all = whole fs s in
    let i = c.loop-function.function-index in
    let m = c.loop-function.made in
    let f = c.function-item.result in
    let rest = drop (i + 1) fs ++ s ∷ [] in
    let part : Part all (f ∷ rest) m.rows m.locals m.bodies m.place = at_item all fs s f i m.rows m.locals m.bodies m.place c.loop-function-test.true c.function-item.is c.loop-function.invariant in
    let new = c.append.new.self in
    goes_on all rest f m.rows m.locals m.bodies m.place part new.rows new.locals new.bodies new.place c.in_ok-append.ensures.rows c.in_ok-append.ensures.locals c.in_ok-append.ensures.bodies c.in_ok-append.ensures.place

pub append-requires-2 : goal.append-requires-2
append-requires-2 c =
    let fs = c.args.functions.now in
    let s = c.args.start.now in
    let all = whole fs s in
    let i = c.loop-function.function-index in
    let m = c.loop-function.made in
    let past : length fs ≤ i = omega (arith, c.loop-function-test.false) in
    let part : Part all (s ∷ []) m.rows m.locals m.bodies m.place = at_end all fs s i m.rows m.locals m.bodies m.place past c.loop-function.invariant in
    record {
      function = c.requires.start;
      size = room all [] s m.rows m.locals m.bodies m.place part;
      rows = counted all [] s m.rows m.locals m.bodies m.place part;
    }

ended : (fs : List Function) (s : Function) (i : ℕ) (m new : Methods) → length fs ≤ i → Part (whole fs s) (drop i fs ++ s ∷ []) m.rows m.locals m.bodies m.place
    → new.rows ≡ m.rows ++ method_row m.place s ∷ [] → new.locals ≡ m.locals ++ local_row s.locals → new.bodies ≡ m.bodies ++ spec.body (length m.locals + 1) s ∷ [] → new.place ≡ aligned (m.place + length (body_bytes (spec.body (length m.locals + 1) s)))
    → Part (whole fs s) [] new.rows new.locals new.bodies new.place
ended fs s i m new past part rows locals bodies place =
    goes_on (whole fs s) [] s m.rows m.locals m.bodies m.place (at_end (whole fs s) fs s i m.rows m.locals m.bodies m.place past part) new.rows new.locals new.bodies new.place rows locals bodies place

pub returns-clause-rows : goal.returns-clause-rows
returns-clause-rows c =
    let new = c.append-2.new.self in
    let past : length c.args.functions.now ≤ c.loop-function.function-index = omega (arith, c.loop-function-test.false) in
    rows_whole (whole c.args.functions.now c.args.start.now) new.rows new.locals new.bodies new.place
    (ended c.args.functions.now c.args.start.now c.loop-function.function-index c.loop-function.made new past c.loop-function.invariant c.in_ok-append-2.ensures.rows c.in_ok-append-2.ensures.locals c.in_ok-append-2.ensures.bodies c.in_ok-append-2.ensures.place)

pub returns-clause-locals : goal.returns-clause-locals
returns-clause-locals c =
    let new = c.append-2.new.self in
    let past : length c.args.functions.now ≤ c.loop-function.function-index = omega (arith, c.loop-function-test.false) in
    locals_whole (whole c.args.functions.now c.args.start.now) new.rows new.locals new.bodies new.place
    (ended c.args.functions.now c.args.start.now c.loop-function.function-index c.loop-function.made new past c.loop-function.invariant c.in_ok-append-2.ensures.rows c.in_ok-append-2.ensures.locals c.in_ok-append-2.ensures.bodies c.in_ok-append-2.ensures.place)

pub returns-clause-bodies : goal.returns-clause-bodies
returns-clause-bodies c =
    let new = c.append-2.new.self in
    let past : length c.args.functions.now ≤ c.loop-function.function-index = omega (arith, c.loop-function-test.false) in
    bodies_whole (whole c.args.functions.now c.args.start.now) new.rows new.locals new.bodies new.place
    (ended c.args.functions.now c.args.start.now c.loop-function.function-index c.loop-function.made new past c.loop-function.invariant c.in_ok-append-2.ensures.rows c.in_ok-append-2.ensures.locals c.in_ok-append-2.ensures.bodies c.in_ok-append-2.ensures.place)

-- Code put together from parts that keep the rules.
use Rattle.std.proofs.Common.{◌≡◌, ℕ, ◌+◌, ◌<◌, inl, inr, List, [], ◌∷◌, ◌++◌, true, false, map, Some, refl, sym, ap, ◌∙◌, subst, arith}
use Rattle.std.proofs.lemmas.List.{map-append}
use Rattle.cc_cil.specs.declared.instruction.Instruction.{Instruction}
use Rattle.cc_cil.specs.declared.instruction.Instruction.TheVariants as the
use Rattle.cc_code.specs.Instructions.{width, bytes, branches, ahead}
use Rattle.cc_code.proofs.Sums.{bytes-append}
use Rattle.cc_verify.specs.declared.environment.Environment.{Environment}
use Rattle.cc_verify.specs.declared.environment.Frame.{Frame}
use Rattle.cc_verify.specs.declared.stack_type.StackType.{StackType}
use Rattle.cc_verify.specs.declared.transition.Transition.{Transition}
use Rattle.cc_verify.specs.declared.transition.Transition.TheVariants as to
use Rattle.cc_verify.specs.Transitions.{Stack, transition_of, falls, branches as may_branch, jump}
use Rattle.cc_verified_code.specs.Rows.{Row, row, instruction_of, Table, HasRows, Expects, Came, Reached, Takes, AllGood}
use Rattle.cc_verified_code.specs.Flows.{Flows, Ends}
use Rattle.cc_verified_code.proofs.Passing.{width_some}

-- ---- rows

pub rows_size : (rows : List Row) (code : List Instruction) (lo hi : ℕ) → map instruction_of rows ≡ code → lo + bytes code ≡ hi → lo + bytes (map instruction_of rows) ≡ hi
rows_size rows code lo hi is e = let f : bytes (map instruction_of rows) ≡ bytes code = ap bytes is in omega arith

pub has_front : (at : Table) (lo : ℕ) (a b : List Row) → HasRows at lo (a ++ b) → HasRows at lo a
has_front at lo [] b h = tt
has_front at lo (r ∷ a) b h = (h.0, has_front at (lo + width r.instruction) a b h.1)

pub has_back : (at : Table) (lo mid : ℕ) (a b : List Row) → lo + bytes (map instruction_of a) ≡ mid → HasRows at lo (a ++ b) → HasRows at mid b
has_back at lo mid [] b e h = let f : lo ≡ mid = omega arith in subst (λ (n : ℕ). HasRows at n b) f h
has_back at lo mid (r ∷ a) b e h = has_back at (lo + width r.instruction) mid a b (omega arith) h.1

module _ (e : Environment) (f : Frame) (most : ℕ) where
  pub good_append : (at : Table) (lo mid : ℕ) (a b : List Row) → lo + bytes (map instruction_of a) ≡ mid → AllGood e f most at lo a → AllGood e f most at mid b → AllGood e f most at lo (a ++ b)
  good_append at lo mid [] b q g h = let p : mid ≡ lo = omega arith in subst (λ (n : ℕ). AllGood e f most at n b) p h
  good_append at lo mid (r ∷ a) b q g h = (g.0, good_append at (lo + width r.instruction) mid a b (omega arith) g.1 h)

pub expects_at : (at : Table) (a b : ℕ) (s : Stack) → a ≡ b → Expects at a s → Expects at b s
expects_at at a b s p x = subst (λ (n : ℕ). Expects at n s) p x

module _ (e : Environment) (f : Frame) (most : ℕ) (Given : Table → Type 0) where
  abbrev F : List Instruction → ℕ → Stack → Stack → Type 0
  F code lo s out = Flows e f most Given code lo s out

  pub nothing : (lo : ℕ) (s : Stack) → F [] lo s s
  nothing lo s = record {
    rows = [];
    is = refl;
    begins = λ at hi q h x. let p : hi ≡ lo = omega arith in expects_at at hi lo s p x;
    reaches = λ at hi q h r. let p : lo ≡ hi = omega arith in subst (λ (n : ℕ). Reached at n s) p r;
    good = λ at g hi q h r x. tt;
  }

  -- one part after another
  abbrev pub both : (a b : List Instruction) (lo mid : ℕ) (s t out : Stack) → lo + bytes a ≡ mid → F a lo s t → F b mid t out → F (a ++ b) lo s out
  both a b lo mid s t out m x y =
      let whole = bytes-append a b in
      let k = rows_size x.rows a lo mid x.is m in
      record {
        rows = x.rows ++ y.rows;
        is = map-append instruction_of x.rows y.rows ∙ (ap (λ l. l ++ map instruction_of y.rows) x.is ∙ ap (λ l. a ++ l) y.is);
        begins = λ at hi q h z. x.begins at mid m (has_front at lo x.rows y.rows h) (y.begins at hi (omega arith) (has_back at lo mid x.rows y.rows k h) z);
        reaches = λ at hi q h r. y.reaches at hi (omega arith) (has_back at lo mid x.rows y.rows k h) (x.reaches at mid m (has_front at lo x.rows y.rows h) r);
        good = λ at g hi q h r z.
            let ha = has_front at lo x.rows y.rows h in
            let hb = has_back at lo mid x.rows y.rows k h in
            let p : mid + bytes b ≡ hi = omega arith in
            good_append e f most at lo mid x.rows y.rows k (x.good at g mid m ha r (y.begins at hi p hb z)) (y.good at g hi p hb (x.reaches at mid m ha r) z);
      }

  -- the instruction before falls into a place
  fallen : (at : Table) (lo hi : ℕ) (i : Instruction) (s : Stack) → at lo ≡ Some (row i s) → falls (transition_of i) ≡ true → lo < hi → lo + width i ≡ hi → Came at hi
  fallen at lo hi i s h d less q = record { from = lo; by = row i s; before = less; is = h; leads = inr (d, q) }

  -- an instruction that the next one follows
  pub plain : (i : Instruction) (lo : ℕ) (s out : Stack) → falls (transition_of i) ≡ true → may_branch (transition_of i) ≡ false → Takes e f most (transition_of i) s out → F (i ∷ []) lo s out
  plain i lo s out d n step = let long = width_some i in record {
    rows = row i s ∷ [];
    is = refl;
    begins = λ at hi q h x. (i, h.0);
    reaches = λ at hi q h r. inr (fallen at lo hi i s h.0 d (omega arith) (omega arith));
    good = λ at g hi q h r x. (
      record {
        out = out;
        step = step;
        falls_to = λ goes. let p : hi ≡ lo + width i = omega arith in expects_at at hi (lo + width i) out p x;
        leads_to = λ goes. let bad : true ≡ false = sym goes ∙ n in cc;
        reached = r;
      },
      tt,
    );
  }

  -- one whose transition is known
  pub plain_as : (i : Instruction) (t : Transition) (lo : ℕ) (s out : Stack) → transition_of i ≡ t → falls t ≡ true → may_branch t ≡ false → Takes e f most t s out → F (i ∷ []) lo s out
  plain_as i t lo s out h d n step = plain i lo s out (ap falls h ∙ d) (ap may_branch h ∙ n) (subst (λ (t : Transition). Takes e f most t s out) (sym h) step)

  -- an instruction, and what follows it
  pub after : (i : Instruction) (code : List Instruction) (lo next : ℕ) (s t out : Stack) → lo + width i ≡ next → F (i ∷ []) lo s t → F code next t out → F (i ∷ code) lo s out
  after i code lo next s t out q x y = let p : lo + (width i + 0) ≡ next = omega arith in both (i ∷ []) code lo next s t out p x y

  -- an instruction that branches, or else is followed by the next one
  pub branching : (i : Instruction) (t : Transition) (target lo : ℕ) (s out : Stack) → transition_of i ≡ t → falls t ≡ true → jump t (lo + width i) ≡ Some target → Takes e f most t s out
      → ((at : Table) → Given at → Expects at target out) → F (i ∷ []) lo s out
  branching i t target lo s out is d j step to = let long = width_some i in record {
    rows = row i s ∷ [];
    is = refl;
    begins = λ at hi q h x. (i, h.0);
    reaches = λ at hi q h r. inr (fallen at lo hi i s h.0 (ap falls is ∙ d) (omega arith) (omega arith));
    good = λ at g hi q h r x. (
      record {
        out = out;
        step = subst (λ (t : Transition). Takes e f most t s out) (sym is) step;
        falls_to = λ goes. let p : hi ≡ lo + width i = omega arith in expects_at at hi (lo + width i) out p x;
        leads_to = λ goes. record { target = target; is = ap (λ (t : Transition). jump t (lo + width i)) is ∙ j; expects = to at g };
        reached = r;
      },
      tt,
    );
  }

  -- one that always branches: behind it the stack is empty
  pub leading : (i : Instruction) (t : Transition) (target lo : ℕ) (s out : Stack) → transition_of i ≡ t → falls t ≡ false → jump t (lo + width i) ≡ Some target → Takes e f most t s out
      → ((at : Table) → Given at → Expects at target out) → F (i ∷ []) lo s []
  leading i t target lo s out is d j step to = record {
    rows = row i s ∷ [];
    is = refl;
    begins = λ at hi q h x. (i, h.0);
    reaches = λ at hi q h r. inl refl;
    good = λ at g hi q h r x. (
      record {
        out = out;
        step = subst (λ (t : Transition). Takes e f most t s out) (sym is) step;
        falls_to = λ goes. let bad : true ≡ false = sym goes ∙ (ap falls is ∙ d) in cc;
        leads_to = λ goes. record { target = target; is = ap (λ (t : Transition). jump t (lo + width i)) is ∙ j; expects = to at g };
        reached = r;
      },
      tt,
    );
  }

  -- one that ends the method
  pub ending : (i : Instruction) (lo : ℕ) (s out : Stack) → falls (transition_of i) ≡ false → may_branch (transition_of i) ≡ false → Takes e f most (transition_of i) s out → F (i ∷ []) lo s []
  ending i lo s out d n step = record {
    rows = row i s ∷ [];
    is = refl;
    begins = λ at hi q h x. (i, h.0);
    reaches = λ at hi q h r. inl refl;
    good = λ at g hi q h r x. (
      record {
        out = out;
        step = step;
        falls_to = λ goes. let bad : true ≡ false = sym goes ∙ d in cc;
        leads_to = λ goes. let bad : true ≡ false = sym goes ∙ n in cc;
        reached = r;
      },
      tt,
    );
  }

  -- the same code, counted from an equal offset
  pub at_same : (code : List Instruction) (a b : ℕ) (s out : Stack) → a ≡ b → F code a s out → F code b s out
  at_same code a b s out p x = subst (λ (n : ℕ). F code n s out) p x

  -- one of two parts, by the value on top
  module _ (n m : ℕ) (first second : List Instruction) (lo : ℕ) (k : StackType) (s out : Stack)
      (size_first : bytes first ≡ n) (size_second : bytes second ≡ m)
      (test : Takes e f most (to.BranchIf (ahead (m + 5))) (k ∷ s) s) (leave : Takes e f most (to.Branch (ahead n)) out out)
      (x : F first (lo + 10 + m) s out) (y : F second (lo + 5) s out) where
    abbrev chosen_rows : List Row
    chosen_rows = row (the.BranchTrue (ahead (m + 5))) (k ∷ s) ∷ (y.rows ++ (row (the.Branch (ahead n)) out ∷ x.rows))

    chosen_size : (hi : ℕ) → lo + bytes (branches n first m second) ≡ hi → lo + 10 + m + bytes first ≡ hi
    chosen_size hi q = let w = bytes-append second (the.Branch (ahead n) ∷ first) in omega arith

    second_size : lo + 5 + bytes (map instruction_of y.rows) ≡ lo + 5 + m
    second_size = rows_size y.rows second (lo + 5) (lo + 5 + m) y.is (omega arith)

    has_leave : (at : Table) → HasRows at lo chosen_rows → (at (lo + 5 + m) ≡ Some (row (the.Branch (ahead n)) out)) × HasRows at (lo + 5 + m + 5) x.rows
    has_leave at h = has_back at (lo + 5) (lo + 5 + m) y.rows (row (the.Branch (ahead n)) out ∷ x.rows) second_size h.1

    has_second : (at : Table) → HasRows at lo chosen_rows → HasRows at (lo + 5) y.rows
    has_second at h = has_front at (lo + 5) y.rows (row (the.Branch (ahead n)) out ∷ x.rows) h.1

    has_first : (at : Table) → HasRows at lo chosen_rows → HasRows at (lo + 10 + m) x.rows
    has_first at h = let p : lo + 5 + m + 5 ≡ lo + 10 + m = omega arith in subst (λ (a : ℕ). HasRows at a x.rows) p (has_leave at h).1

    to_first : jump (to.BranchIf (ahead (m + 5))) (lo + 5) ≡ Some (lo + 10 + m)
    to_first = let p : lo + 5 + (m + 5) ≡ lo + 10 + m = omega arith in ap (λ (a : ℕ). Some a) p

    to_end : (hi : ℕ) → lo + 10 + m + bytes first ≡ hi → jump (to.Branch (ahead n)) (lo + 5 + m + 5) ≡ Some hi
    to_end hi q = let p : lo + 5 + m + 5 + n ≡ hi = omega arith in ap (λ (a : ℕ). Some a) p

    came_first : (at : Table) → HasRows at lo chosen_rows → Came at (lo + 10 + m)
    came_first at h = record { from = lo; by = row (the.BranchTrue (ahead (m + 5))) (k ∷ s); before = omega arith; is = h.0; leads = inl to_first }

    second_reached : (at : Table) → HasRows at lo chosen_rows → Reached at (lo + 5) s
    second_reached at h = inr (fallen at lo (lo + 5) (the.BranchTrue (ahead (m + 5))) (k ∷ s) h.0 refl (omega arith) refl)

    pub chosen : F (branches n first m second) lo (k ∷ s) out
    chosen = record {
      rows = chosen_rows;
      is = ap (λ l. the.BranchTrue (ahead (m + 5)) ∷ l) (map-append instruction_of y.rows (row (the.Branch (ahead n)) out ∷ x.rows) ∙ (ap (λ l. l ++ (the.Branch (ahead n) ∷ map instruction_of x.rows)) y.is ∙ ap (λ l. second ++ (the.Branch (ahead n) ∷ l)) x.is));
      begins = λ at hi q h z. (the.BranchTrue (ahead (m + 5)), h.0);
      reaches = λ at hi q h r. x.reaches at hi (chosen_size hi q) (has_first at h) (inr (came_first at h));
      good = λ at g hi q h r z.
          let end = chosen_size hi q in
          let first_expects = x.begins at hi end (has_first at h) z in
          let leave_at = has_leave at h in
          let leave_expects : Expects at (lo + 5 + m) out = (the.Branch (ahead n), leave_at.0) in
          let second_expects = y.begins at (lo + 5 + m) (omega arith) (has_second at h) leave_expects in (
            record {
              out = s;
              step = test;
              falls_to = λ goes. second_expects;
              leads_to = λ goes. record { target = lo + 10 + m; is = to_first; expects = first_expects };
              reached = r;
            },
            good_append e f most at (lo + 5) (lo + 5 + m) y.rows (row (the.Branch (ahead n)) out ∷ x.rows) second_size
                (y.good at g (lo + 5 + m) (omega arith) (has_second at h) (second_reached at h) leave_expects) (
                  record {
                    out = out;
                    step = leave;
                    falls_to = λ goes. let bad : false ≡ true = goes in cc;
                    leads_to = λ goes. record { target = hi; is = to_end hi end; expects = z };
                    reached = y.reaches at (lo + 5 + m) (omega arith) (has_second at h) (second_reached at h);
                  },
                  let p : lo + 10 + m ≡ lo + 5 + m + 5 = omega arith in
                      subst (λ (a : ℕ). AllGood e f most at a x.rows) p (x.good at g hi end (has_first at h) (inr (came_first at h)) z),
                ),
          );
    }

-- what is asked of tables follows from the rows themselves
abbrev pub discharged : (e : Environment) (f : Frame) (most : ℕ) (Inner Outer : Table → Type 0) (code : List Instruction) (lo : ℕ) (s out : Stack) (x : Flows e f most Inner code lo s out)
    → ((at : Table) → Outer at → (hi : ℕ) → lo + bytes code ≡ hi → HasRows at lo x.rows → Expects at hi out → Inner at) → Flows e f most Outer code lo s out
discharged e f most Inner Outer code lo s out x w = record {
  rows = x.rows;
  is = x.is;
  begins = x.begins;
  reaches = x.reaches;
  good = λ at g hi q h r z. x.good at (w at g hi q h z) hi q h r z;
}

-- ---- the end of a method

module _ (e : Environment) (f : Frame) (most : ℕ) where
  pub return_ends : (i : Instruction) (lo : ℕ) (s out : Stack) → falls (transition_of i) ≡ false → may_branch (transition_of i) ≡ false → Takes e f most (transition_of i) s out → Ends e f most (i ∷ []) lo s
  return_ends i lo s out d n step = record {
    rows = row i s ∷ [];
    is = refl;
    begins = λ at h. (i, h.0);
    good = λ at h r. (
      record {
        out = out;
        step = step;
        falls_to = λ goes. let bad : true ≡ false = sym goes ∙ d in cc;
        leads_to = λ goes. let bad : true ≡ false = sym goes ∙ n in cc;
        reached = r;
      },
      tt,
    );
  }

  pub then_ends : (Given : Table → Type 0) (a b : List Instruction) (lo mid : ℕ) (s t : Stack) → ((at : Table) → Given at) → lo + bytes a ≡ mid → Flows e f most Given a lo s t → Ends e f most b mid t → Ends e f most (a ++ b) lo s
  then_ends Given a b lo mid s t given m x y =
      let k = rows_size x.rows a lo mid x.is m in
      record {
        rows = x.rows ++ y.rows;
        is = map-append instruction_of x.rows y.rows ∙ (ap (λ l. l ++ map instruction_of y.rows) x.is ∙ ap (λ l. a ++ l) y.is);
        begins = λ at h. x.begins at mid m (has_front at lo x.rows y.rows h) (y.begins at (has_back at lo mid x.rows y.rows k h));
        good = λ at h r.
            let ha = has_front at lo x.rows y.rows h in
            let hb = has_back at lo mid x.rows y.rows k h in
            good_append e f most at lo mid x.rows y.rows k (x.good at (given at) mid m ha r (y.begins at hb)) (y.good at hb (x.reaches at mid m ha r));
      }

-- Bytes put one after another into a buffer or a writer.
use Rattle.std.proofs.Common.{◌≡◌, ℕ, List, [], ◌∷◌, ◌++◌, Option, Result, Ok, Err, IfErr, OnOk, refl, sym, ap, subst, ◌∙◌, append_assoc}
use Rattle.std.specs.Io.KnownBytes.{Appends}
use Rattle.std.proofs.KnownBytes.{Appends-nil, Appends-trans}
use Rattle.std.proofs.lemmas.List.{append-nil}
use Rattle.std.proofs.lemmas.Grind.{flat_map-append}
use Rattle.rope_text.specs.Content.{Content}
use Rattle.rope_script.specs.declared.script.Command.{Command}
use Rattle.rope_script.specs.declared.script.Reply.{Reply}
use Rattle.rope_protocol.specs.ReplyLine.{reply_line, reply_lines}
use Rattle.rope_script.specs.Step.{Step, Runs}
use Rattle.rope_protocol.specs.Serving.{Puts, PutsRun, WritesReplies}

-- nothing was put
pub Puts-nothing : (o : Option (List ℕ)) (before : List ℕ) → Puts o o before before []
Puts-nothing o before = record {
  out = [];
  appended = Appends-nil o;
  joined = sym (append-nil before);
}

pub Puts-both : (o p q : Option (List ℕ)) (a b c xs ys : List ℕ) → Puts o p a b xs → Puts p q b c ys
    → Puts o q a c (xs ++ ys)
Puts-both o p q a b c xs ys s t = record {
  out = s.out ++ t.out;
  appended = Appends-trans o p q s.out t.out s.appended t.appended;
  joined = append_assoc s.out t.out c ∙ ap (λ zs. s.out ++ zs) t.joined
      ∙ sym (append_assoc s.out b ys) ∙ ap (λ zs. zs ++ ys) s.joined ∙ append_assoc a xs ys;
}

-- the buffered bytes are written
pub Puts-flushed : (o p q : Option (List ℕ)) (a b c : List ℕ) → Puts o p a b [] → Appends p q b
    → c ≡ [] → Puts o q a c []
Puts-flushed o p q a b c s x e = record {
  out = s.out ++ b;
  appended = Appends-trans o p q s.out b s.appended x;
  joined = ap (λ zs. (s.out ++ b) ++ zs) e ∙ append-nil (s.out ++ b) ∙ s.joined;
}

-- what holds anyway holds of each error, whatever else is known of it
pub each_err : {A E P : Type 0} (r : Result A E) (Known : E → Type 0) → P
    → IfErr r (λ e. Known e → P)
each_err (Ok v) Known p = tt
each_err (Err e) Known p = λ _. p

Runs-both : (old mid new : List Content) (cs ds : List Command) (rs ss : List Reply)
    → Runs old cs rs mid → Runs mid ds ss new → Runs old (cs ++ ds) (rs ++ ss) new
Runs-both old mid new [] ds [] ss p q = subst (λ s. Runs s ds ss new) p q
Runs-both old mid new [] ds (r ∷ rs) ss p q = absurd p
Runs-both old mid new (c ∷ cs) ds [] ss p q = absurd p
Runs-both old mid new (c ∷ cs) ds (r ∷ rs) ss p q =
    (p.0, p.1, Runs-both p.0 mid new cs ds rs ss p.2 q)

-- no command was run
pub PutsRun-nothing : (ropes : List Content) (o : Option (List ℕ)) (before : List ℕ)
    → PutsRun ropes ropes o o before before
PutsRun-nothing ropes o before = record {
  commands = [];
  replies = [];
  run = refl;
  put = Puts-nothing o before;
}

pub PutsRun-both : (r s t : List Content) (o p q : Option (List ℕ)) (a b c : List ℕ)
    → PutsRun r s o p a b → PutsRun s t p q b c → PutsRun r t o q a c
PutsRun-both r s t o p q a b c x y = record {
  commands = x.commands ++ y.commands;
  replies = x.replies ++ y.replies;
  run = Runs-both r s t x.commands y.commands x.replies y.replies x.run y.run;
  put = subst (Puts o q a c) (sym (flat_map-append reply_line x.replies y.replies))
      (Puts-both o p q a b c (reply_lines x.replies) (reply_lines y.replies) x.put y.put);
}

-- the buffered bytes are written after a run
pub PutsRun-on : (r s : List Content) (o p q : Option (List ℕ)) (a b c : List ℕ)
    → PutsRun r s o p a b → Puts p q b c [] → PutsRun r s o q a c
PutsRun-on r s o p q a b c x y = record {
  commands = x.commands;
  replies = x.replies;
  run = x.run;
  put = subst (Puts o q a c) (append-nil (reply_lines x.replies))
      (Puts-both o p q a b c (reply_lines x.replies) [] x.put y);
}

-- nothing was written after a run
pub PutsRun-kept : (r s : List Content) (o p q : Option (List ℕ)) (a b c : List ℕ)
    → PutsRun r s o p a b → q ≡ p → c ≡ b → PutsRun r s o q a c
PutsRun-kept r s o p q a b c x e f =
    subst (λ z. PutsRun r s o z a c) (sym e) (subst (λ z. PutsRun r s o p a z) (sym f) x)

-- one command was run, and the line of its reply was put
pub PutsRun-step : (r s : List Content) (o p : Option (List ℕ)) (a b : List ℕ) (command : Command)
    (reply : Reply) (bytes : List ℕ) → Step r command reply s → bytes ≡ reply_line reply
    → Puts o p a b bytes → PutsRun r s o p a b
PutsRun-step r s o p a b command reply bytes step is put = record {
  commands = command ∷ [];
  replies = reply ∷ [];
  run = (s, step, refl);
  put = subst (Puts o p a b) (is ∙ sym (append-nil (reply_line reply))) put;
}

-- the buffered bytes are written, and then a long reply
pub Puts-written : {E : Type 0} (r : Result (Unit {0}) E) (o p q : Option (List ℕ))
    (before after reply : List ℕ) → Appends o p before → after ≡ [] → OnOk r (Appends p q reply)
    → OnOk r (Puts o q before after reply)
Puts-written (Ok v) o p q before after reply x e y =
    record {
      out = before ++ reply;
      appended = Appends-trans o p q before reply x y;
      joined = ap (λ zs. (before ++ reply) ++ zs) e ∙ append-nil (before ++ reply);
    }
Puts-written (Err v) o p q before after reply x e y = tt

-- the last buffered bytes are written too
pub WritesReplies-flushed : (left : List Content) (o p q : Option (List ℕ)) (after : List ℕ)
    → PutsRun [] left o p [] after → Appends p q after → WritesReplies o q
WritesReplies-flushed left o p q after x f = record {
  commands = x.commands;
  replies = x.replies;
  left = left;
  run = x.run;
  appended = subst (Appends o q) x.put.joined
      (Appends-trans o p q x.put.out after x.put.appended f);
}

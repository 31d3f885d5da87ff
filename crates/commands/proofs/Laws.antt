-- An answer as a reply: a refusal's, `refused_reply`; a call's, `answers_told`. Assumes nothing.
use Prim.Native.Nat.{ℕ}
use mathlib.Core.Path.{◌≡◌, refl}
use Rattle.index.specs.declared.Refusal.{Refusal}
use Rattle.index.specs.declared.Refusal.TheVariants.{Tables, Full, NoNode, NoEdge, Nothing, Broken, Short, NotImage, Version, NotCommand}
use Rattle.index.specs.declared.Refusal.TheVariants.{Taken, Beyond, NotBare, NoRanking, Outside, TooDeep, Fell, Overflow}
use Rattle.index.specs.Refusals.{refusal_no}
use Rattle.index.specs.declared.NodeIndex.{NodeIndex}
use Rattle.index.specs.declared.EdgeIndex.{EdgeIndex}
use Rattle.std.specs.Prelude.{Result, Ok, Err}
use Rattle.tables.specs.Answers.{refused, told_as, told_node, told_edge, told_change, told_items}
use Rattle.commands.specs.Parts.{reply_of}
use Rattle.reply.specs.declared.Reply.{Reply}
use Rattle.reply.specs.Replies.{bare_reply}
use Prim.{Unit, tt}
use lib.IntN.{ℤ, pos}
use Rattle.walker.specs.Sums.{told_summed}
use Rattle.removal.specs.declared.removed.RemovedEdge.{RemovedEdge}
use Rattle.removal.specs.Removal.{moved_no, told_edge_removed}
use Rattle.commands.specs.Commands.{nothing, one_value, one_number, counted, edge_gone, reply_to}

module _ {A : Type 0} (letter : ℕ) (served : ℕ → A → Reply) where
  -- no refusal has the number 0
  pub refused_reply : (zeros : A) (why : Refusal) → bare_reply letter (refusal_no why) ≡ reply_to letter served (refused why zeros)
  refused_reply zeros Tables = refl
  refused_reply zeros Full = refl
  refused_reply zeros NoNode = refl
  refused_reply zeros NoEdge = refl
  refused_reply zeros Nothing = refl
  refused_reply zeros Broken = refl
  refused_reply zeros Short = refl
  refused_reply zeros NotImage = refl
  refused_reply zeros Version = refl
  refused_reply zeros NotCommand = refl
  refused_reply zeros Taken = refl
  refused_reply zeros Beyond = refl
  refused_reply zeros NotBare = refl
  refused_reply zeros NoRanking = refl
  refused_reply zeros Outside = refl
  refused_reply zeros TooDeep = refl
  refused_reply zeros Fell = refl
  refused_reply zeros Overflow = refl

-- what a call answers, replied, is the reply to what it tells
reply_told : {A B : Type 0} (value : A → B) (zeros : B) (letter : ℕ) (served : ℕ → B → Reply) (answer : Result A Refusal)
    → reply_of letter (λ l x. served l (value x)) answer ≡ reply_to letter served (told_as value zeros answer)
reply_told value zeros letter served (Ok x) = refl
reply_told value zeros letter served (Err why) = refused_reply letter served zeros why

pub node_told : (letter : ℕ) (answer : Result NodeIndex Refusal) → reply_of letter (λ l a. one_number l a.0) answer ≡ reply_to letter one_number (told_node answer)
node_told letter answer = reply_told (λ (a : NodeIndex). a.0) 0 letter one_number answer

pub edge_told : (letter : ℕ) (answer : Result EdgeIndex Refusal) → reply_of letter (λ l e. one_number l e.0) answer ≡ reply_to letter one_number (told_edge answer)
edge_told letter answer = reply_told (λ (e : EdgeIndex). e.0) 0 letter one_number answer

pub items_told : (letter : ℕ) (answer : Result ℕ Refusal) → reply_of letter counted answer ≡ reply_to letter counted (told_items answer)
items_told letter answer = reply_told (λ (c : ℕ). c) 0 letter counted answer

pub sum_told : (letter : ℕ) (answer : Result ℤ Refusal) → reply_of letter one_value answer ≡ reply_to letter one_value (told_summed answer)
sum_told letter answer = reply_told (λ (z : ℤ). z) (pos 0) letter one_value answer

pub change_told : (letter : ℕ) (answer : Result Unit Refusal) → reply_of letter nothing answer ≡ reply_to letter nothing (told_change answer)
change_told letter answer = reply_told (λ (u : Unit). tt) tt letter nothing answer

pub gone_told : (letter : ℕ) (answer : Result RemovedEdge Refusal)
    → reply_of letter (λ l x. edge_gone l (x.weight, moved_no x.moved, x.rows)) answer ≡ reply_to letter edge_gone (told_edge_removed answer)
gone_told letter answer = reply_told (λ (x : RemovedEdge). (x.weight, moved_no x.moved, x.rows)) (0, 0, 0) letter edge_gone answer

pub ruleset answers_told = (node_told, edge_told, items_told, sum_told, change_told, gone_told)

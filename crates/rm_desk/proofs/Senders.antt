-- A message is of one sender, and a cursor that is moved leaves the others.
use Rattle.std.proofs.Common.{◌≡◌, ℕ, true, false, refl}
use Rattle.rm_types.specs.declared.messages.Message.{Message}
use Rattle.rm_types.specs.declared.messages.Message.TheVariants.{Client as FromClient, Master as FromMaster, Node as FromNode, Clock as FromClock}
use Rattle.rm_types.specs.declared.messages.Sender.{Sender}
use Rattle.rm_types.specs.declared.messages.Sender.TheVariants.{Client, Master, Node, Clock}
use Rattle.rm_model.specs.Place.{is_from}
use Rattle.rm_desk.specs.declared.cursors.Cursors.{Cursors}
use Rattle.rm_desk.specs.Left.{cursor_of, with_cursor}
use Rattle.rm_types.specs.Lanes.{sender_of}

-- a message is of the sender who sent it
pub from_own : (message : Message) → is_from (sender_of message) message ≡ true
from_own (FromClient user ask) = refl
from_own (FromMaster attempt ask) = refl
from_own (FromNode node ask) = refl
from_own (FromClock ask) = refl

-- and of no other
pub own_sender : (sender : Sender) (message : Message) → is_from sender message ≡ true → sender_of message ≡ sender
own_sender Client (FromClient user ask) e = refl
own_sender Client (FromMaster attempt ask) e = cc
own_sender Client (FromNode node ask) e = cc
own_sender Client (FromClock ask) e = cc
own_sender Master (FromClient user ask) e = cc
own_sender Master (FromMaster attempt ask) e = refl
own_sender Master (FromNode node ask) e = cc
own_sender Master (FromClock ask) e = cc
own_sender Node (FromClient user ask) e = cc
own_sender Node (FromMaster attempt ask) e = cc
own_sender Node (FromNode node ask) e = refl
own_sender Node (FromClock ask) e = cc
own_sender Clock (FromClient user ask) e = cc
own_sender Clock (FromMaster attempt ask) e = cc
own_sender Clock (FromNode node ask) e = cc
own_sender Clock (FromClock ask) e = refl

-- a cursor that is moved stands where it was moved to
pub moved_own : (sender : Sender) (place : ℕ) (cursors : Cursors) → cursor_of (with_cursor sender place cursors) sender ≡ place
moved_own Client place cursors = refl
moved_own Master place cursors = refl
moved_own Node place cursors = refl
moved_own Clock place cursors = refl

-- the cursors of the messages of others stay
pub moved_others : (sender : Sender) (place : ℕ) (cursors : Cursors) (message : Message) → is_from sender message ≡ false → cursor_of (with_cursor sender place cursors) (sender_of message) ≡ cursor_of cursors (sender_of message)
moved_others Client place cursors (FromClient user ask) e = cc
moved_others Client place cursors (FromMaster attempt ask) e = refl
moved_others Client place cursors (FromNode node ask) e = refl
moved_others Client place cursors (FromClock ask) e = refl
moved_others Master place cursors (FromClient user ask) e = refl
moved_others Master place cursors (FromMaster attempt ask) e = cc
moved_others Master place cursors (FromNode node ask) e = refl
moved_others Master place cursors (FromClock ask) e = refl
moved_others Node place cursors (FromClient user ask) e = refl
moved_others Node place cursors (FromMaster attempt ask) e = refl
moved_others Node place cursors (FromNode node ask) e = cc
moved_others Node place cursors (FromClock ask) e = refl
moved_others Clock place cursors (FromClient user ask) e = refl
moved_others Clock place cursors (FromMaster attempt ask) e = refl
moved_others Clock place cursors (FromNode node ask) e = refl
moved_others Clock place cursors (FromClock ask) e = cc

-- what holds of each cursor holds of each after one is moved to a place of which it holds
pub moved_all : (P : Sender → ℕ → Type 0) (sender : Sender) (place : ℕ) (cursors : Cursors) → P sender place → ((each : Sender) → P each (cursor_of cursors each)) → (each : Sender) → P each (cursor_of (with_cursor sender place cursors) each)
moved_all P Client place cursors h all Client = h
moved_all P Client place cursors h all Master = all Master
moved_all P Client place cursors h all Node = all Node
moved_all P Client place cursors h all Clock = all Clock
moved_all P Master place cursors h all Client = all Client
moved_all P Master place cursors h all Master = h
moved_all P Master place cursors h all Node = all Node
moved_all P Master place cursors h all Clock = all Clock
moved_all P Node place cursors h all Client = all Client
moved_all P Node place cursors h all Master = all Master
moved_all P Node place cursors h all Node = h
moved_all P Node place cursors h all Clock = all Clock
moved_all P Clock place cursors h all Client = all Client
moved_all P Clock place cursors h all Master = all Master
moved_all P Clock place cursors h all Node = all Node
moved_all P Clock place cursors h all Clock = h

-- four facts are a fact of each sender
pub each_sender : (P : Sender → Type 0) → P Client → P Master → P Node → P Clock → (each : Sender) → P each
each_sender P client master node clock Client = client
each_sender P client master node clock Master = master
each_sender P client master node clock Node = node
each_sender P client master node clock Clock = clock

-- Doors over TCP, of which contracts see how often they have failed, and how often each connection has.
use Rattle.std.specs.Prelude.{ℕ, false, [], None}
use Rattle.connections.specs.Doors.{LinkSeen}
use Rattle.sheets_cli.specs.declared.tcp.TcpDoors.{TcpDoors}
use Rattle.sheets_cli.specs.declared.tcp.TcpLink.{TcpLink}
use Rattle.sheets_cli.specs.declared.tcp.TcpFaults.{TcpFaults}

-- how often the doors have failed
abbrev pub door_faults : {R : Type 0} → TcpDoors R → ℕ
door_faults doors = doors.faults

-- how often a connection's reads have failed
abbrev pub tcp_read_faults : TcpLink → ℕ
tcp_read_faults link = link.faults.reads

-- how often a connection's writes have failed
abbrev pub tcp_write_faults : TcpLink → ℕ
tcp_write_faults link = link.faults.writes

-- what a closed connection told: its counts alone
abbrev pub told_by_faults : TcpFaults → LinkSeen
told_by_faults faults = record {
  left = None;
  written = None;
  read_faults = faults.reads;
  write_faults = faults.writes;
  shortages = 0;
  read_steady = false;
  write_steady = false;
  references = [];
}

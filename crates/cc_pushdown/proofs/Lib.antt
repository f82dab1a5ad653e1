mod Turned
